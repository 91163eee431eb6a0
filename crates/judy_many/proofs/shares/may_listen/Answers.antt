use Rattle.std.proofs.Common.{inl, refl}
use Rattle.judy_many.proofs.shares.may_listen.Goals as goal

pub returns-then-not-is_ready-clause-may : goal.returns-then-not-is_ready-clause-may
returns-then-not-is_ready-clause-may g c = (refl, inl (refl, c.is_ready.ensures.why c.if-not-is_ready.true))
