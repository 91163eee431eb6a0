use Rattle.std.proofs.Common.{◌+◌, ◌-◌, ◌<◌, drop, length, get_or, ap, sym, ◌∙◌, subst, arith}
use Rattle.judy_model.specs.Contents.{nth}
use Rattle.judy_branch.specs.Slots.{some_words}
use Rattle.judy_tree.specs.Nodes.{depth}
use Rattle.judy_tree.specs.Root.{IsRoot, entries}
use Rattle.judy_tree.proofs.lemmas.Finds.{deep-branch}
use Rattle.judy_tree.proofs.lemmas.Trees.{root-top}
use Rattle.judy_query.proofs.Places.{nth-left, nth-right, nth-none}
use Rattle.judy_query.proofs.Words.{over, skip, step, gone, kid-at, content-over}
use Rattle.judy_query.proofs.query.place_up.Goals as goal

pub slots-slots-requires : goal.slots-slots-requires
slots-slots-requires c = (root-top c.args.values c.args.arena.now.blocks c.args.node c.requires.branch c.requires.root).branch

pub loop-i-init : goal.loop-i-init
loop-i-init c = ap (λ l. nth l c.args.n) (content-over c.args.values c.args.arena.now.blocks c.args.node c.requires.branch
    c.requires.root c.slots-slots.result.now c.slots-slots.ensures)

pub loop-i-preserved-then-word-eq0 : goal.loop-i-preserved-then-word-eq0
loop-i-preserved-then-word-eq0 c =
    c.loop-i.invariant ∙ ap (λ l. nth (over (entries c.args.values c.args.arena.now.blocks) l) c.loop-i.left)
    (skip c.slots-slots.result.now c.loop-i.i c.loop-i-test.true c.if-word-eq0.true)

pub known-child-requires : goal.known-child-requires
known-child-requires c = (kid-at c.args.values c.args.arena.now.blocks c.args.node c.requires.branch c.requires.root
    c.slots-slots.result.now c.slots-slots.ensures c.loop-i.i c.loop-i-test.true c.if-word-eq0.false).reference

pub population-here-requires : goal.population-here-requires
population-here-requires c =
    subst (λ k. IsRoot c.args.values c.args.arena.now.blocks k) (sym c.known-child.ensures)
    (kid-at c.args.values c.args.arena.now.blocks c.args.node c.requires.branch c.requires.root c.slots-slots.result.now
    c.slots-slots.ensures c.loop-i.i c.loop-i-test.true c.if-word-eq0.false).sound

pub returns-then-left-here-clause-place : goal.returns-then-left-here-clause-place
returns-then-left-here-clause-place c =
    let f = entries c.args.values c.args.arena.now.blocks in
    let ws = c.slots-slots.result.now in
    let len = c.population-here.ensures ∙ ap (λ k. length (f k)) c.known-child.ensures in
    let h = c.if-left-here.true in
    c.loop-i.invariant ∙ ap (λ l. nth (over f l) c.loop-i.left) (step ws c.loop-i.i c.loop-i-test.true c.if-word-eq0.false)
    ∙ nth-left (f (get_or ws c.loop-i.i 0)) (over f (some_words (drop (c.loop-i.i + 1) ws))) c.loop-i.left (omega arith)
    ∙ ap (λ k. nth (f k) c.loop-i.left) (sym c.known-child.ensures)

pub returns-then-left-here-clause-root : goal.returns-then-left-here-clause-root
returns-then-left-here-clause-root c =
    subst (λ k. IsRoot c.args.values c.args.arena.now.blocks k) (sym c.known-child.ensures)
    (kid-at c.args.values c.args.arena.now.blocks c.args.node c.requires.branch c.requires.root c.slots-slots.result.now
    c.slots-slots.ensures c.loop-i.i c.loop-i-test.true c.if-word-eq0.false).sound

pub returns-then-left-here-clause-deeper : goal.returns-then-left-here-clause-deeper
returns-then-left-here-clause-deeper c =
    let b = c.args.arena.now.blocks in
    let e = (kid-at c.args.values b c.args.node c.requires.branch c.requires.root c.slots-slots.result.now c.slots-slots.ensures
    c.loop-i.i c.loop-i-test.true c.if-word-eq0.false).deeper in
    let d = deep-branch c.args.values b c.args.node 0 c.requires.branch c.requires.root in
    subst (λ k. depth b c.args.node < depth b k) (sym c.known-child.ensures) (omega arith)

pub loop-i-preserved : goal.loop-i-preserved
loop-i-preserved c =
    let f = entries c.args.values c.args.arena.now.blocks in
    let ws = c.slots-slots.result.now in
    let len = c.population-here.ensures ∙ ap (λ k. length (f k)) c.known-child.ensures in
    let h = c.if-left-here.false in
    c.loop-i.invariant ∙ ap (λ l. nth (over f l) c.loop-i.left) (step ws c.loop-i.i c.loop-i-test.true c.if-word-eq0.false)
    ∙ nth-right (f (get_or ws c.loop-i.i 0)) (over f (some_words (drop (c.loop-i.i + 1) ws))) c.loop-i.left (omega arith)
    ∙ ap (λ k. nth (over f (some_words (drop (c.loop-i.i + 1) ws))) (c.loop-i.left - k)) (sym len)

pub returns-clause-none : goal.returns-clause-none
returns-clause-none c =
    let f = entries c.args.values c.args.arena.now.blocks in
    let ws = c.slots-slots.result.now in
    let t = c.loop-i-test.false in
    c.loop-i.invariant ∙ ap (λ l. nth (over f (some_words l)) c.loop-i.left) (gone ws c.loop-i.i (omega arith)) ∙ nth-none c.loop-i.left
