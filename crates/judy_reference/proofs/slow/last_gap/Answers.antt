use Rattle.std.proofs.Common.{sym, ◌∙◌, ap}
use Rattle.std.specs.Prelude.{nat_le, filter, reverse}
use Rattle.judy_model.specs.Gaps.{start_of_run}
use Rattle.judy_reference.proofs.QueryLemmas.{le-test, le-not}
use Rattle.judy_reference.proofs.SlowLemmas.{reverse-keeps, reverse-skips, reverse-none, start-stops, start-none, start-goes}
use Rattle.judy_reference.proofs.slow.last_gap.Goals as goal

pub returns-then-e-gap : goal.returns-then-e-gap
returns-then-e-gap c =
    let here = reverse-keeps (λ e. nat_le e.0 c.args.x) c.next.new.self.iter.rest.now c.loop-e.e-iterator.iter.rest.now
    c.in-Some.e.now c.in-Some.ensures.steps (le-test _ _ c.if-x-e.true) in
    sym (start-stops c.loop-e.gap c.in-Some.e.now (reverse (filter (λ e. nat_le e.0 c.args.x) c.next.new.self.iter.rest.now)) c.if-e-gap.true)
    ∙ ap (start_of_run c.loop-e.gap) (sym here) ∙ c.loop-e.invariant

pub returns-then-gap-eq0 : goal.returns-then-gap-eq0
returns-then-gap-eq0 c =
    let here = reverse-keeps (λ e. nat_le e.0 c.args.x) c.next.new.self.iter.rest.now c.loop-e.e-iterator.iter.rest.now
    c.in-Some.e.now c.in-Some.ensures.steps (le-test _ _ c.if-x-e.true) in
    sym (start-none c.loop-e.gap c.in-Some.e.now (reverse (filter (λ e. nat_le e.0 c.args.x) c.next.new.self.iter.rest.now)) c.if-e-gap.false c.if-gap-eq0.true)
    ∙ ap (start_of_run c.loop-e.gap) (sym here) ∙ c.loop-e.invariant

pub loop-e-preserved-then-x-e : goal.loop-e-preserved-then-x-e
loop-e-preserved-then-x-e c =
    let here = reverse-keeps (λ e. nat_le e.0 c.args.x) c.next.new.self.iter.rest.now c.loop-e.e-iterator.iter.rest.now
    c.in-Some.e.now c.in-Some.ensures.steps (le-test _ _ c.if-x-e.true) in
    sym (start-goes c.loop-e.gap c.in-Some.e.now (reverse (filter (λ e. nat_le e.0 c.args.x) c.next.new.self.iter.rest.now))
    c.if-e-gap.false c.if-gap-eq0.false)
    ∙ ap (start_of_run c.loop-e.gap) (sym here) ∙ c.loop-e.invariant

pub loop-e-preserved : goal.loop-e-preserved
loop-e-preserved c =
    let here = reverse-skips (λ e. nat_le e.0 c.args.x) c.next.new.self.iter.rest.now c.loop-e.e-iterator.iter.rest.now
    c.in-Some.e.now c.in-Some.ensures.steps (le-not _ _ c.if-x-e.false) in
    ap (start_of_run c.loop-e.gap) (sym here) ∙ c.loop-e.invariant

pub returns : goal.returns
returns c =
    let none = reverse-none (λ e. nat_le e.0 c.args.x) c.loop-e.e-iterator.iter.rest.now c.in-None.ensures.steps.0 in
    ap (start_of_run c.loop-e.gap) (sym none) ∙ c.loop-e.invariant
