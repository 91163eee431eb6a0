use Rattle.std.proofs.Common.{sym, ◌∙◌}
use Rattle.std.specs.Prelude.{nat_le}
use Rattle.judy_reference.proofs.QueryLemmas.{last-here, last-skip, le-test, le-not}
use Rattle.judy_reference.proofs.slow.last_entry.Goals as goal
use Rattle.judy_reference.proofs.slow.last_entry.Goals.{then-e-x, else-e-x}

pub loop-e-preserved : goal.loop-e-preserved
loop-e-preserved c =
    elim c.if-e-x.branch [
      | then-e-x w ↦ w.best-is ∙ sym (last-here (λ e. nat_le e.0 c.args.x) c.args.entries.now c.loop-e.e-index (0, 0)
          c.loop-e-test.true (le-test _ _ w.if-e-x.true))
      | else-e-x w ↦ w.best-is ∙ c.loop-e.invariant ∙ sym (last-skip (λ e. nat_le e.0 c.args.x) c.args.entries.now
          c.loop-e.e-index (0, 0) c.loop-e-test.true (le-not _ _ w.if-e-x.false))
    ]
