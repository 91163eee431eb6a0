use Rattle.std.proofs.Common.{◌+◌, ◌&&◌, drop, length, get_or, ap, sym, ◌∙◌, subst, arith, length-append}
use Rattle.std.specs.Prelude.{nat_le, nat_lt}
use Rattle.judy_branch.specs.Slots.{some_words}
use Rattle.judy_tree.specs.Root.{IsRoot, entries}
use Rattle.judy_tree.proofs.lemmas.Trees.{root-top}
use Rattle.judy_query.proofs.Sums.{part-fits}
use Rattle.judy_query.proofs.Words.{over, skip, step, gone, kid-in, joined-some}
use Rattle.judy_query.proofs.query.between.Goals as goal

pub span-span-requires-clause-branch : goal.span-span-requires-clause-branch
span-span-requires-clause-branch c = (root-top c.args.values c.args.arena.now.blocks c.args.node c.requires.branch c.requires.root).branch

pub loop-i-init : goal.loop-i-init
loop-i-init c =
    let e = ap length (joined-some c.args.values c.args.arena.now.blocks c.args.node c.requires.branch c.requires.root
    (λ k. nat_le c.args.from k.0 && nat_lt k.0 c.args.high) c.span-span.result.now c.span-span.ensures) in
    omega (arith, e)

pub loop-i-preserved-then-word-eq0 : goal.loop-i-preserved-then-word-eq0
loop-i-preserved-then-word-eq0 c =
    c.loop-i.invariant ∙ ap (λ l. c.loop-i.count + length (over (entries c.args.values c.args.arena.now.blocks) l))
    (skip c.span-span.result.now c.loop-i.i c.loop-i-test.true c.if-word-eq0.true)

pub known-child-requires : goal.known-child-requires
known-child-requires c =
    (kid-in c.args.values c.args.arena.now.blocks c.args.node c.requires.branch c.requires.root
    (λ k. nat_le c.args.from k.0 && nat_lt k.0 c.args.high) c.span-span.result.now c.span-span.ensures c.loop-i.i
    c.loop-i-test.true c.if-word-eq0.false).reference

pub population-count-requires : goal.population-count-requires
population-count-requires c =
    subst (λ k. IsRoot c.args.values c.args.arena.now.blocks k) (sym c.known-child.ensures)
    (kid-in c.args.values c.args.arena.now.blocks c.args.node c.requires.branch c.requires.root
    (λ k. nat_le c.args.from k.0 && nat_lt k.0 c.args.high) c.span-span.result.now c.span-span.ensures c.loop-i.i
    c.loop-i-test.true c.if-word-eq0.false).sound

pub overflow_add-count : goal.overflow_add-count
overflow_add-count c =
    let f = entries c.args.values c.args.arena.now.blocks in
    let ws = c.span-span.result.now in
    let len = c.population-count.ensures ∙ ap (λ k. length (f k)) c.known-child.ensures in
    let all = c.loop-i.invariant ∙ ap (λ l. c.loop-i.count + length (over f l)) (step ws c.loop-i.i c.loop-i-test.true c.if-word-eq0.false) in
    let both = length-append (f (get_or ws c.loop-i.i 0)) (over f (some_words (drop (c.loop-i.i + 1) ws))) in
    let fits = part-fits c.args.values c.args.arena.now.blocks c.args.node c.requires.branch c.requires.root c.args.from c.args.high in
    omega (arith, len, all, both, fits)

pub loop-i-preserved : goal.loop-i-preserved
loop-i-preserved c =
    let f = entries c.args.values c.args.arena.now.blocks in
    let ws = c.span-span.result.now in
    let len = c.population-count.ensures ∙ ap (λ k. length (f k)) c.known-child.ensures in
    let all = c.loop-i.invariant ∙ ap (λ l. c.loop-i.count + length (over f l)) (step ws c.loop-i.i c.loop-i-test.true c.if-word-eq0.false) in
    let both = length-append (f (get_or ws c.loop-i.i 0)) (over f (some_words (drop (c.loop-i.i + 1) ws))) in
    omega (arith, len, all, both)

pub returns : goal.returns
returns c =
    let f = entries c.args.values c.args.arena.now.blocks in
    let t = c.loop-i-test.false in
    let end = c.loop-i.invariant ∙ ap (λ l. c.loop-i.count + length (over f (some_words l))) (gone c.span-span.result.now c.loop-i.i (omega arith)) in
    omega (arith, end)
