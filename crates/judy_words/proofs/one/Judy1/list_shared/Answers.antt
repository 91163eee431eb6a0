use Rattle.std.proofs.Common.{◌≡◌, ◌<◌, ◌-◌, ◌+◌, ◌∙◌, [], Some, length, sym, ap, arith}
use Rattle.judy_model.specs.declared.lists.TheConstants.{INTERSECTION_STEPS}
use Rattle.judy_words.specs.OneArrays.{one_in}
use Rattle.judy_model.proofs.lemmas.IntersectionLemmas.{rest, ends, goes_on, greatest, no_index, no_step, room_is_short, skips, stops}
use Rattle.judy_words.proofs.one.Judy1.list_shared.Goals as goal

pub loop-step-init : goal.loop-step-init
loop-step-init c =
    let l = one_in c.args.arena.now.blocks c.args.self.now in
    let m = one_in c.args.arena.now.blocks c.args.other.now in
    let all : c.args.most - 0 ≡ c.args.most = omega arith in
    (omega arith, omega (arith, ap length c.requires.empty), ap (λ t. rest l m INTERSECTION_STEPS (c.args.most - 0) 0 t c.args.x) c.requires.empty ∙ ap (λ n. rest l m INTERSECTION_STEPS n 0 [] c.args.x) all)

pub returns-then-count-most-clause-shown : goal.returns-then-count-most-clause-shown
returns-then-count-most-clause-shown c =
    let enough : c.args.most - c.loop-step.count ≡ 0 = omega (arith, c.if-count-most.true) in
    no_index _ _ _ _ _ _ _ _ c.loop-step.invariant.2 enough

pub returns-in_default-clause-shown : goal.returns-in_default-clause-shown
returns-in_default-clause-shown c =
    let some : 0 < INTERSECTION_STEPS - c.loop-step._step = omega (arith, c.loop-step-test.true) in
    let wanted : 0 < c.args.most - c.loop-step.count = omega (arith, c.loop-step.invariant.0, c.if-count-most.false) in
    ends _ _ _ _ _ _ _ _ c.loop-step.invariant.2 some wanted
    (sym c.meet.ensures ∙ c.in_default.is)

pub loop-step-preserved-then-not-both : goal.loop-step-preserved-then-not-both
loop-step-preserved-then-not-both c =
    let some : 0 < INTERSECTION_STEPS - c.loop-step._step = omega (arith, c.loop-step-test.true) in
    let wanted : 0 < c.args.most - c.loop-step.count = omega (arith, c.loop-step.invariant.0, c.if-count-most.false) in
    let l = one_in c.args.arena.now.blocks c.args.self.now in
    let m = one_in c.args.arena.now.blocks c.args.other.now in
    let one_less : INTERSECTION_STEPS - c.loop-step._step - 1 ≡ INTERSECTION_STEPS - (c.loop-step._step + 1) = omega arith in (
      c.loop-step.invariant.0,
      c.loop-step.invariant.1,
      ap (λ n. rest l m n (c.args.most - c.loop-step.count) c.loop-step.count c.loop-step.listing c.in-Some.index) (sym one_less)
          ∙ skips l m _ _ _ _ c.in-Some.index _ _ c.loop-step.invariant.2 some
          wanted (sym c.meet.ensures ∙ c.in-Some.is ∙ ap (λ b. Some (c.in-Some.index, b)) c.if-not-both.true),
    )

pub returns-then-not-add_shared-clause-shown : goal.returns-then-not-add_shared-clause-shown
returns-then-not-add_shared-clause-shown c =
    let some : 0 < INTERSECTION_STEPS - c.loop-step._step = omega (arith, c.loop-step-test.true) in
    let wanted : 0 < c.args.most - c.loop-step.count = omega (arith, c.loop-step.invariant.0, c.if-count-most.false) in
    stops _ _ c.add_shared.result _ _ _ _ c.in-Some.index _ _ c.loop-step.invariant.2 some
    wanted (sym c.meet.ensures ∙ c.in-Some.is ∙ ap (λ b. Some (c.in-Some.index, b)) c.if-not-both.false)
    c.add_shared.ensures.fits c.if-not-add_shared.true ∙ ap (λ t. record { next = Some c.in-Some.index; count = c.loop-step.count; text = t }) (sym c.if-not-add_shared.ensures.added)

pub overflow_add-count : goal.overflow_add-count
overflow_add-count c = omega (arith, c.loop-step.invariant.0, c.if-count-most.false, c.ranges.most)

pub returns-in_default-behind-clause-shown : goal.returns-in_default-behind-clause-shown
returns-in_default-behind-clause-shown c =
    let some : 0 < INTERSECTION_STEPS - c.loop-step._step = omega (arith, c.loop-step-test.true) in
    let wanted : 0 < c.args.most - c.loop-step.count = omega (arith, c.loop-step.invariant.0, c.if-count-most.false) in
    greatest _ _ c.add_shared.result _ _ _ _ c.in-Some.index _ _ c.behind.result _ c.loop-step.invariant.2 some
    wanted (sym c.meet.ensures ∙ c.in-Some.is ∙ ap (λ b. Some (c.in-Some.index, b)) c.if-not-both.false)
    c.add_shared.ensures.fits c.if-not-add_shared.false c.if-not-add_shared.ensures.added c.behind.ensures c.in_default-behind.is

pub loop-step-preserved : goal.loop-step-preserved
loop-step-preserved c =
    let some : 0 < INTERSECTION_STEPS - c.loop-step._step = omega (arith, c.loop-step-test.true) in
    let wanted : 0 < c.args.most - c.loop-step.count = omega (arith, c.loop-step.invariant.0, c.if-count-most.false) in
    let l = one_in c.args.arena.now.blocks c.args.self.now in
    let m = one_in c.args.arena.now.blocks c.args.other.now in
    let one_less : INTERSECTION_STEPS - c.loop-step._step - 1 ≡ INTERSECTION_STEPS - (c.loop-step._step + 1) = omega arith in
    let one_fewer : c.args.most - c.loop-step.count - 1 ≡ c.args.most - (c.loop-step.count + 1) = omega arith in (
      omega (arith, c.loop-step.invariant.0, c.if-count-most.false),
      room_is_short c.add_shared.result _ _ _ c.add_shared.ensures.fits c.if-not-add_shared.false c.if-not-add_shared.ensures.added,
      ap (λ n. rest l m n (c.args.most - (c.loop-step.count + 1)) (c.loop-step.count + 1) c.add_shared.new.self c.in-Some-behind.next) (sym one_less)
          ∙ ap (λ n. rest l m (INTERSECTION_STEPS - c.loop-step._step - 1) n (c.loop-step.count + 1) c.add_shared.new.self c.in-Some-behind.next) (sym one_fewer)
          ∙ goes_on l m c.add_shared.result _ _ _ _ c.in-Some.index _ _ _ c.behind.result _ c.loop-step.invariant.2 some
          wanted
          (sym c.meet.ensures ∙ c.in-Some.is ∙ ap (λ b. Some (c.in-Some.index, b)) c.if-not-both.false)
          c.add_shared.ensures.fits c.if-not-add_shared.false c.if-not-add_shared.ensures.added c.behind.ensures c.in-Some-behind.is,
    )

pub returns-clause-shown : goal.returns-clause-shown
returns-clause-shown c =
    let last : INTERSECTION_STEPS - c.loop-step._step ≡ 0 = omega (arith, c.loop-step-test.false) in
    no_step _ _ _ _ _ _ _ _ c.loop-step.invariant.2 last
