use Rattle.std.proofs.Common.{◌≡◌, true, sym, ◌∙◌, arith}
use Rattle.std.specs.Ordering.{is_ge}
use Rattle.judy_model.specs.Contents.{string_order}
use Rattle.judy_reference.proofs.QueryLemmas.{head_of-filter}
use Rattle.judy_reference.proofs.SlowLemmas.{find-at, find-end}
use Rattle.judy_reference.proofs.slow.first_string.Goals as goal

pub returns-then-is_ge : goal.returns-then-is_ge
returns-then-is_ge c =
    let passes : is_ge (string_order c.e-item.result.0 c.args.x.now) ≡ true = cc (c.is_ge.ensures, c.cmp.ensures) in
    find-at (λ e. is_ge (string_order e.0 c.args.x.now)) c.args.entries.now c.loop-e.e-index c.e-item.result c.loop-e-test.true c.e-item.is passes
    ∙ c.loop-e.invariant ∙ sym (head_of-filter (λ e. is_ge (string_order e.0 c.args.x.now)) c.args.entries.now)

pub returns : goal.returns
returns c =
    find-end (λ e. is_ge (string_order e.0 c.args.x.now)) c.args.entries.now c.loop-e.e-index (omega arith)
    ∙ c.loop-e.invariant ∙ sym (head_of-filter (λ e. is_ge (string_order e.0 c.args.x.now)) c.args.entries.now)
