-- Limits of time.
use Rattle.std.specs.Prelude.{◌-◌, ℕ, Bool, true, false, Option, Some, None, nat_le}

-- Whether this many seconds have passed since a time. A limit that was not asked for never passes, and if
-- the clock failed, each limit that was asked for has passed.
abbrev pub is_past : Option ℕ → ℕ → Option ℕ → Bool
is_past None since now = false
is_past (Some limit) since None = true
is_past (Some limit) since (Some now) = nat_le limit (now - since)
