use Rattle.std.proofs.Common.{◌≡◌, true, false, ap, ◌∙◌}
use Rattle.std.specs.Option.{option_copied}
use Rattle.std.specs.Ordering.{is_lt}
use Rattle.judy_model.specs.Contents.{string_order}
use Rattle.judy_reference.proofs.SlowLemmas.{last-at, last-past}
use Rattle.judy_reference.proofs.slow.prev_string.Goals as goal
use Rattle.judy_reference.proofs.slow.prev_string.Goals.{then-is_lt, else-is_lt}

pub loop-e-preserved : goal.loop-e-preserved
loop-e-preserved c =
    elim c.if-is_lt.branch [
      | then-is_lt w ↦
          let passes : is_lt (string_order c.e-item.result.0 c.args.x.now) ≡ true = cc (c.is_lt.ensures, c.cmp.ensures, w.if-is_lt.true) in
          ap option_copied w.best-is ∙ last-at (λ e. is_lt (string_order e.0 c.args.x.now)) c.args.entries.now c.loop-e.e-index
          c.e-item.result c.loop-e-test.true c.e-item.is passes
      | else-is_lt w ↦
          let fails : is_lt (string_order c.e-item.result.0 c.args.x.now) ≡ false = cc (c.is_lt.ensures, c.cmp.ensures, w.if-is_lt.false) in
          ap option_copied w.best-is ∙ c.loop-e.invariant ∙ last-past (λ e. is_lt (string_order e.0 c.args.x.now))
          c.args.entries.now c.loop-e.e-index c.e-item.result c.loop-e-test.true c.e-item.is fails
    ]
