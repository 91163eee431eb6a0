-- the rest of the list decides, from the gap on
use Rattle.std.proofs.Common.{◌≡◌, drop}
use Rattle.std.specs.Prelude.{filter, nat_le}
use Rattle.judy_model.specs.Gaps.{end_of_run}
use Rattle.judy_reference.proofs.slow.first_gap.Given as goal

abbrev pub invariant-loop-e : goal.invariant-loop-e
invariant-loop-e l = end_of_run l.gap (filter (λ e. nat_le l.x e.0) (drop l.e-index l.entries)) ≡ end_of_run l.x (filter (λ e. nat_le l.x e.0) l.entries)
