-- the rest of the list decides, from the gap down
use Rattle.std.proofs.Common.{◌≡◌}
use Rattle.std.specs.Prelude.{filter, reverse, nat_le}
use Rattle.judy_model.specs.Gaps.{start_of_run}
use Rattle.judy_reference.proofs.slow.last_gap.Given as goal

abbrev pub invariant-loop-e : goal.invariant-loop-e
invariant-loop-e l = start_of_run l.gap (reverse (filter (λ e. nat_le e.0 l.x) l.e-iterator.iter.rest.now)) ≡ start_of_run l.x
    (reverse (filter (λ e. nat_le e.0 l.x) l.entries))
