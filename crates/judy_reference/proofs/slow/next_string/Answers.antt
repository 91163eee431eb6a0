use Rattle.std.proofs.Common.{◌≡◌, true, sym, ◌∙◌, arith}
use Rattle.std.specs.Ordering.{is_gt}
use Rattle.judy_model.specs.Contents.{string_order}
use Rattle.judy_reference.proofs.QueryLemmas.{head_of-filter}
use Rattle.judy_reference.proofs.SlowLemmas.{find-at, find-end}
use Rattle.judy_reference.proofs.slow.next_string.Goals as goal

pub returns-then-is_gt : goal.returns-then-is_gt
returns-then-is_gt c =
    let passes : is_gt (string_order c.e-item.result.0 c.args.x.now) ≡ true = cc (c.is_gt.ensures, c.cmp.ensures) in
    find-at (λ e. is_gt (string_order e.0 c.args.x.now)) c.args.entries.now c.loop-e.e-index c.e-item.result c.loop-e-test.true c.e-item.is passes
    ∙ c.loop-e.invariant ∙ sym (head_of-filter (λ e. is_gt (string_order e.0 c.args.x.now)) c.args.entries.now)

pub returns : goal.returns
returns c =
    find-end (λ e. is_gt (string_order e.0 c.args.x.now)) c.args.entries.now c.loop-e.e-index (omega arith)
    ∙ c.loop-e.invariant ∙ sym (head_of-filter (λ e. is_gt (string_order e.0 c.args.x.now)) c.args.entries.now)
