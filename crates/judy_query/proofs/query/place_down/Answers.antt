use Rattle.std.proofs.Common.{◌-◌, ◌<◌, ◌≡◌, ◌++◌, ℕ, suc, take, length, get_or, ap, sym, ◌∙◌, subst, arith, length-append, take_all}
use Rattle.judy_model.specs.Contents.{nth}
use Rattle.judy_branch.specs.Slots.{some_words}
use Rattle.judy_tree.specs.Nodes.{depth}
use Rattle.judy_tree.specs.Root.{IsRoot, entries}
use Rattle.judy_tree.proofs.lemmas.Finds.{deep-branch}
use Rattle.judy_tree.proofs.lemmas.Trees.{root-top}
use Rattle.judy_query.proofs.Places.{nth-left, nth-right}
use Rattle.judy_query.proofs.Words.{over, front-step, kid-at, content-over}
use Rattle.judy_query.proofs.query.place_down.Goals as goal

pub slots-slots-requires : goal.slots-slots-requires
slots-slots-requires c = (root-top c.args.values c.args.arena.now.blocks c.args.node c.requires.branch c.requires.root).branch

pub population-requires : goal.population-requires
population-requires c = (root-top c.args.values c.args.arena.now.blocks c.args.node c.requires.branch c.requires.root).branch

pub overflow_sub-after : goal.overflow_sub-after
overflow_sub-after c =
    let top = root-top c.args.values c.args.arena.now.blocks c.args.node c.requires.branch c.requires.root in
    let all = top.over.population in
    let same = ap length top.content in
    let p = c.population.ensures in
    let w = c.requires.within in
    omega (arith, all, same, p, w)

pub loop-i-init : goal.loop-i-init
loop-i-init c =
    let f = entries c.args.values c.args.arena.now.blocks in
    let ws = c.slots-slots.result.now in
    let top = root-top c.args.values c.args.arena.now.blocks c.args.node c.requires.branch c.requires.root in
    let whole : over f (some_words (take (length ws) ws)) ≡ f c.args.node = ap (λ l. over f (some_words l)) (take_all (length ws) ws (omega arith))
    ∙ sym (content-over c.args.values c.args.arena.now.blocks c.args.node c.requires.branch c.requires.root ws c.slots-slots.ensures) in
    let all = top.over.population in
    let same = ap length top.content in
    let p = c.population.ensures in
    let w = c.requires.within in
    let both = ap length whole in
    let number : length (over f (some_words (take (length ws) ws))) - (c.population.result - c.args.n) ≡ c.args.n = omega (arith, all, same, p, w, both) in (
      ap (λ l. nth l c.args.n) (sym whole) ∙ ap (nth (over f (some_words (take (length ws) ws)))) (sym number),
      omega (arith, all, same, p, w, both),
    )

pub known-child-requires : goal.known-child-requires
known-child-requires c =
    let a = c.loop-i.auto.i in
    let t = c.loop-i-test.true in
    (kid-at c.args.values c.args.arena.now.blocks c.args.node c.requires.branch c.requires.root c.slots-slots.result.now
    c.slots-slots.ensures (c.loop-i.i - 1) (omega arith) c.if-word-eq0.false).reference

pub population-here-requires : goal.population-here-requires
population-here-requires c =
    let a = c.loop-i.auto.i in
    let t = c.loop-i-test.true in
    subst (λ k. IsRoot c.args.values c.args.arena.now.blocks k) (sym c.known-child.ensures)
    (kid-at c.args.values c.args.arena.now.blocks c.args.node c.requires.branch c.requires.root c.slots-slots.result.now
    c.slots-slots.ensures (c.loop-i.i - 1) (omega arith) c.if-word-eq0.false).sound

pub returns-then-after-here-clause-place : goal.returns-then-after-here-clause-place
returns-then-after-here-clause-place c =
    let f = entries c.args.values c.args.arena.now.blocks in
    let ws = c.slots-slots.result.now in
    let a = c.loop-i.auto.i in
    let t = c.loop-i-test.true in
    let m : ℕ = c.loop-i.i - 1 in
    let e : c.loop-i.i ≡ suc m = omega arith in
    let front = over f (some_words (take m ws)) in
    let last = f (get_or ws m 0) in
    let split : over f (some_words (take c.loop-i.i ws)) ≡ front ++ last
    = ap (λ j. over f (some_words (take j ws))) e ∙ front-step f ws m (omega arith) c.if-word-eq0.false in
    let len = c.population-here.ensures ∙ ap (λ k. length (f k)) c.known-child.ensures in
    let both = length-append front last in
    let h = c.if-after-here.true in
    let number : length (front ++ last) - c.loop-i.after - length front ≡ c.population-here.result - c.loop-i.after = omega (arith, len, both) in
    c.loop-i.invariant.0 ∙ ap (λ l. nth l (length l - c.loop-i.after)) split
    ∙ nth-right front last (length (front ++ last) - c.loop-i.after) (omega (arith, len, both, h))
    ∙ ap (nth last) number
    ∙ ap (λ k. nth (f k) (c.population-here.result - c.loop-i.after)) (sym c.known-child.ensures)

pub returns-then-after-here-clause-root : goal.returns-then-after-here-clause-root
returns-then-after-here-clause-root c =
    let a = c.loop-i.auto.i in
    let t = c.loop-i-test.true in
    subst (λ k. IsRoot c.args.values c.args.arena.now.blocks k) (sym c.known-child.ensures)
    (kid-at c.args.values c.args.arena.now.blocks c.args.node c.requires.branch c.requires.root c.slots-slots.result.now
    c.slots-slots.ensures (c.loop-i.i - 1) (omega arith) c.if-word-eq0.false).sound

pub returns-then-after-here-clause-deeper : goal.returns-then-after-here-clause-deeper
returns-then-after-here-clause-deeper c =
    let b = c.args.arena.now.blocks in
    let a = c.loop-i.auto.i in
    let t = c.loop-i-test.true in
    let e = (kid-at c.args.values b c.args.node c.requires.branch c.requires.root c.slots-slots.result.now c.slots-slots.ensures
    (c.loop-i.i - 1) (omega arith) c.if-word-eq0.false).deeper in
    let d = deep-branch c.args.values b c.args.node 0 c.requires.branch c.requires.root in
    subst (λ k. depth b c.args.node < depth b k) (sym c.known-child.ensures) (omega arith)

pub loop-i-preserved : goal.loop-i-preserved
loop-i-preserved c =
    let f = entries c.args.values c.args.arena.now.blocks in
    let ws = c.slots-slots.result.now in
    let a = c.loop-i.auto.i in
    let t = c.loop-i-test.true in
    let m : ℕ = c.loop-i.i - 1 in
    let e : c.loop-i.i ≡ suc m = omega arith in
    let front = over f (some_words (take m ws)) in
    let last = f (get_or ws m 0) in
    let split : over f (some_words (take c.loop-i.i ws)) ≡ front ++ last
    = ap (λ j. over f (some_words (take j ws))) e ∙ front-step f ws m (omega arith) c.if-word-eq0.false in
    let len = c.population-here.ensures ∙ ap (λ k. length (f k)) c.known-child.ensures in
    let both = length-append front last in
    let few = c.loop-i.invariant.1 in
    let same = ap length split in
    let h = c.if-after-here.false in
    let number : length (front ++ last) - c.loop-i.after ≡ length front - (c.loop-i.after - c.population-here.result) = omega (arith, len, both, few, same, h) in (
      c.loop-i.invariant.0 ∙ ap (λ l. nth l (length l - c.loop-i.after)) split
          ∙ nth-left front last (length (front ++ last) - c.loop-i.after) (omega (arith, len, both, h))
          ∙ ap (nth front) number,
      omega (arith, len, both, few, same, h),
    )
