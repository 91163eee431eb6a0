-- The maker of a call.
use Rattle.std.specs.Prelude.{ℕ}
use Rattle.judy_model.specs.declared.calls.Call.{Call}
use Rattle.judy_model.specs.declared.quotas.Right.{Right}
use Rattle.judy_model.specs.Tenant.{Attempt}

-- a tenant, by its place in the table of tenants, and the right of the connection
pub record Speaker : Type 0 where
  pub tenant : ℕ
  pub right : Right

-- a call and its maker
pub record Event : Type 0 where
  pub speaker : Speaker
  pub call : Call

-- the attempt that the maker's tenant sees
abbrev pub attempt_of : Event → Attempt
attempt_of event = record { right = event.speaker.right; call = event.call }
