-- Whose connections are open.
--     speaks_for place who    the tenant at this place is logged in
--     is_nobody who           nobody is
use Rattle.std.specs.Prelude.{◌==◌, ℕ, Bool, true, false, Option, Some, None}
use Rattle.judy_model.specs.Speakers.{Speaker}

abbrev pub speaks_for : ℕ → Option Speaker → Bool
speaks_for place None = false
speaks_for place (Some who) = who.tenant == place

abbrev pub is_nobody : Option Speaker → Bool
is_nobody None = true
is_nobody (Some who) = false
