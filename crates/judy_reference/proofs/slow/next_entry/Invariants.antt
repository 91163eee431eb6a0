-- the rest of the list decides
use Rattle.std.proofs.Common.{◌≡◌, drop}
use Rattle.std.specs.Prelude.{find, nat_lt}
use Rattle.judy_reference.proofs.slow.next_entry.Given as goal

abbrev pub invariant-loop-e : goal.invariant-loop-e
invariant-loop-e l = find (λ e. nat_lt l.x e.0) (drop l.e-index l.entries) ≡ find (λ e. nat_lt l.x e.0) l.entries
