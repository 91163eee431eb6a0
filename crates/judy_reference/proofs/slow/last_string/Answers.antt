use Rattle.std.proofs.Common.{◌≡◌, true, false, ap, ◌∙◌}
use Rattle.std.specs.Option.{option_copied}
use Rattle.std.specs.Ordering.{is_le}
use Rattle.judy_model.specs.Contents.{string_order}
use Rattle.judy_reference.proofs.SlowLemmas.{last-at, last-past}
use Rattle.judy_reference.proofs.slow.last_string.Goals as goal
use Rattle.judy_reference.proofs.slow.last_string.Goals.{then-is_le, else-is_le}

pub loop-e-preserved : goal.loop-e-preserved
loop-e-preserved c =
    elim c.if-is_le.branch [
      | then-is_le w ↦
          let passes : is_le (string_order c.e-item.result.0 c.args.x.now) ≡ true = cc (c.is_le.ensures, c.cmp.ensures, w.if-is_le.true) in
          ap option_copied w.best-is ∙ last-at (λ e. is_le (string_order e.0 c.args.x.now)) c.args.entries.now c.loop-e.e-index
          c.e-item.result c.loop-e-test.true c.e-item.is passes
      | else-is_le w ↦
          let fails : is_le (string_order c.e-item.result.0 c.args.x.now) ≡ false = cc (c.is_le.ensures, c.cmp.ensures, w.if-is_le.false) in
          ap option_copied w.best-is ∙ c.loop-e.invariant ∙ last-past (λ e. is_le (string_order e.0 c.args.x.now))
          c.args.entries.now c.loop-e.e-index c.e-item.result c.loop-e-test.true c.e-item.is fails
    ]
