use Rattle.std.proofs.Common.{◌≡◌, ◌∙◌, subst, drop}
use Rattle.std.specs.Prelude.{filter, nat_le}
use Rattle.judy_model.specs.Gaps.{end_of_run}
use Rattle.judy_reference.proofs.QueryLemmas.{gap_at_top}
use Rattle.judy_reference.proofs.slow.first_gap.Goals as goal

pub returns-then-gap : goal.returns-then-gap
returns-then-gap c =
    gap_at_top c.args.entries.now c.args.x c.loop-e.e-index (0, 0) c.loop-e-test.true c.if-e-x.true (c.if-e-gap.false ∙ c.if-gap.true)
    (subst (λ g. end_of_run g (filter (λ e. nat_le c.args.x e.0) (drop c.loop-e.e-index c.args.entries.now)) ≡ end_of_run c.args.x
    (filter (λ e. nat_le c.args.x e.0) c.args.entries.now)) c.if-gap.true c.loop-e.invariant)
