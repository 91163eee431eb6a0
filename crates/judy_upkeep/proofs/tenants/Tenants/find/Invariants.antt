use Rattle.std.proofs.Common.{ℕ, ◌<◌}
use Rattle.judy_upkeep.specs.Tenants.{IsAt}
use Rattle.judy_upkeep.proofs.tenants.Tenants.find.Given as goal

abbrev pub invariant-loop-number : goal.invariant-loop-number
invariant-loop-number l = (k : ℕ) → k < l.number → IsAt l.fn.self.names.items k l.fn.name → ⊥
