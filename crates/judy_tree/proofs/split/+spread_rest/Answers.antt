use Rattle.std.proofs.Common.{◌≡◌, ◌<◌, ◌≤◌, ◌+◌, ◌-◌, ◌*◌, ℕ, [], length, take, ap, sym, ◌∙◌, subst, arith}
use Rattle.judy_arena.specs.Blocks.{count_up}
use Rattle.judy_arena.specs.Frame.{Frame}
use Rattle.judy_leaf.specs.Leaf.{leaf_entries, leaf_numbers}
use Rattle.judy_tree.specs.Root.{IsRoot, numbers}
use Rattle.judy_tree.proofs.lemmas.Heads.{at-view, out-view}
use Rattle.judy_tree.proofs.lemmas.Trees.{root-top}
use Rattle.judy_arena.proofs.lemmas.TakeLaws.{takes-both, takes-rests}
use Rattle.judy_tree.proofs.Changes.{given-back}
use Rattle.judy_tree.proofs.Steps.{some-leaf}
use Rattle.judy_tree.proofs.Spreads.{rest-done, next-above, next-byte, next-by, next-partly, rest-ends, own-while, stretch_length}
use Rattle.std.proofs.lemmas.List.{length-take}
use Rattle.judy_model.specs.Contents.{Entries}
use Rattle.judy_tree.proofs.split.+spread_rest.Goals as goal

pub returns-then-place-population-clause-spreads : goal.returns-then-place-population-clause-spreads
returns-then-place-population-clause-spreads t c =
    rest-done c.args.values c.args.arena.now c.args.leaf c.args.node c.args.place c.requires
    (c.if-place-population.true ∙ c.population.ensures)

pub head-branch-requires : goal.head-branch-requires
head-branch-requires t c = (root-top c.args.values c.args.arena.now.blocks c.args.node c.requires.branch c.requires.root).branch

pub run-count-requires-clause-level : goal.run-count-requires-clause-level
run-count-requires-clause-level t c = let h = (root-top c.args.values c.args.arena.now.blocks c.args.node c.requires.branch
    c.requires.root).view.level in omega (arith, c.head-branch.ensures.level)

pub byte_of-requires : goal.byte_of-requires
byte_of-requires t c = let h = (root-top c.args.values c.args.arena.now.blocks c.args.node c.requires.branch
    c.requires.root).view.level in omega (arith, c.head-branch.ensures.level)

pub unreachable-requires : goal.unreachable-requires
unreachable-requires t c =
    let more : c.args.place < length (leaf_entries c.args.values c.args.arena.now.blocks c.args.leaf) =
    (let h = c.requires.place in let n = c.if-place-population.false in let m = c.population.ensures in omega arith) in
    absurd (next-byte c.args.values c.args.arena.now.blocks c.args.leaf c.args.node c.args.place c.key_at-key.result c.requires more c.key_at-key.ensures
    (out-view _ _ _ _ c.key_at-key.result c.head-branch.ensures.level c.head-branch.ensures.prefix c.in_default.ensures.none))

pub put_child-requires-clause-branch : goal.put_child-requires-clause-branch
put_child-requires-clause-branch t c =
    let more : c.args.place < length (leaf_entries c.args.values c.args.arena.now.blocks c.args.leaf) =
    (let h = c.requires.place in let n = c.if-place-population.false in let m = c.population.ensures in omega arith) in
    let at = at-view _ _ _ _ c.key_at-key.result c.in-Some.byte c.head-branch.ensures.level c.head-branch.ensures.prefix c.in-Some.ensures.some in
    (own-while c.args.values c.args.arena.now.blocks c.part.new.arena.blocks c.args.node c.in-Some.byte c.in-Ok.part c.requires.branch c.requires.root
    (next-above c.args.values c.args.arena.now.blocks c.args.leaf c.args.node c.args.place c.key_at-key.result c.in-Some.byte
    c.requires more c.key_at-key.ensures at) c.in-Ok.ensures.making.frame).0.branch

pub put_child-requires-clause-absent : goal.put_child-requires-clause-absent
put_child-requires-clause-absent t c =
    let more : c.args.place < length (leaf_entries c.args.values c.args.arena.now.blocks c.args.leaf) =
    (let h = c.requires.place in let n = c.if-place-population.false in let m = c.population.ensures in omega arith) in
    let at = at-view _ _ _ _ c.key_at-key.result c.in-Some.byte c.head-branch.ensures.level c.head-branch.ensures.prefix c.in-Some.ensures.some in
    (own-while c.args.values c.args.arena.now.blocks c.part.new.arena.blocks c.args.node c.in-Some.byte c.in-Ok.part c.requires.branch c.requires.root
    (next-above c.args.values c.args.arena.now.blocks c.args.leaf c.args.node c.args.place c.key_at-key.result c.in-Some.byte
    c.requires more c.key_at-key.ensures at) c.in-Ok.ensures.making.frame).1

pub put_child-requires-clause-child : goal.put_child-requires-clause-child
put_child-requires-clause-child t c =
    let n = ap length c.in-Ok.ensures.making.entries ∙ stretch_length (leaf_entries c.args.values c.args.arena.now.blocks c.args.leaf)
    c.args.place c.run-count.result c.run-count.ensures.within in
    let s = c.run-count.ensures.some in
    some-leaf c.args.values c.part.new.arena.blocks c.in-Ok.part (omega arith)

pub clear-requires-in_default-put_child : goal.clear-requires-in_default-put_child
clear-requires-in_default-put_child t c =
    let same = given-back c.args.arena.now.blocks c.part.new.arena.blocks c.release.new.arena.blocks
    (leaf_numbers c.part.new.arena.blocks c.in-Ok.part) c.in-Ok.ensures.making.frame
    (subst (λ z. Frame z c.release.new.arena.blocks (leaf_numbers z c.in-Ok.part) []) c.in_default-put_child.ensures.unchanged c.release.ensures.frame) in
    subst (λ z. IsRoot c.args.values z c.args.node) (sym same) c.requires.root

pub returns-in_default-put_child-clause-spreads : goal.returns-in_default-put_child-clause-spreads
returns-in_default-put_child-clause-spreads t c =
    let same = given-back c.args.arena.now.blocks c.part.new.arena.blocks c.release.new.arena.blocks
    (leaf_numbers c.part.new.arena.blocks c.in-Ok.part) c.in-Ok.ensures.making.frame
    (subst (λ z. Frame z c.release.new.arena.blocks (leaf_numbers z c.in-Ok.part) []) c.in_default-put_child.ensures.unchanged c.release.ensures.frame) in
    record {
      frame = subst (λ z. Frame z c.clear-in_default-put_child.new.arena.blocks (numbers z c.args.node) []) same c.clear-in_default-put_child.ensures.frame;
      refusals = c.clear-in_default-put_child.ensures.memory.refusals ∙ c.release.ensures.memory.refusals
          ∙ c.in_default-put_child.ensures.refusals ∙ ap count_up c.in-Ok.ensures.making.refusals;
    }

pub spread_rest-requires : goal.spread_rest-requires
spread_rest-requires t c =
    let at = at-view _ _ _ _ c.key_at-key.result c.in-Some.byte c.head-branch.ensures.level c.head-branch.ensures.prefix c.in-Some.ensures.some in
    let n = next-by c.args.values c.args.arena.now.blocks c.part.new.arena.blocks c.put_child.new.arena.blocks c.args.leaf
    c.args.node c.in-Ok-put_child.wider c.in-Some.byte c.in-Ok.part c.args.place c.run-count.result c.key_at-key.result
    c.from.result
    c.requires (c.from.ensures ∙ c.head-branch.ensures.level) c.run-count.ensures c.key_at-key.ensures at c.in-Ok.ensures.making.leaf
    c.in-Ok.ensures.making.entries c.in-Ok.ensures.making.frame
    c.in-Ok-put_child.ensures.put.branch c.in-Ok-put_child.ensures.put.view c.in-Ok-put_child.ensures.frame in
    let e = ap length n.kept.entries in
    let some = c.run-count.ensures.some in
    let within = c.run-count.ensures.within in (
      omega arith,
      next-partly c.args.values c.args.arena.now.blocks c.put_child.new.arena.blocks c.args.leaf c.args.node
          c.in-Ok-put_child.wider c.args.place c.run-count.result c.requires n c.in-Ok-put_child.ensures.put.branch within,
    )

pub returns-clause-spreads : goal.returns-clause-spreads
returns-clause-spreads t c =
    let at = at-view _ _ _ _ c.key_at-key.result c.in-Some.byte c.head-branch.ensures.level c.head-branch.ensures.prefix c.in-Some.ensures.some in
    let n = next-by c.args.values c.args.arena.now.blocks c.part.new.arena.blocks c.put_child.new.arena.blocks c.args.leaf
    c.args.node c.in-Ok-put_child.wider c.in-Some.byte c.in-Ok.part c.args.place c.run-count.result c.key_at-key.result
    c.from.result
    c.requires (c.from.ensures ∙ c.head-branch.ensures.level) c.run-count.ensures c.key_at-key.ensures at c.in-Ok.ensures.making.leaf
    c.in-Ok.ensures.making.entries c.in-Ok.ensures.making.frame
    c.in-Ok-put_child.ensures.put.branch c.in-Ok-put_child.ensures.put.view c.in-Ok-put_child.ensures.frame in
    rest-ends c.args.values c.args.arena.now c.put_child.new.arena c.spread_rest.new.arena c.args.leaf c.args.node
    c.in-Ok-put_child.wider c.args.place c.run-count.result n
    (c.in-Ok-put_child.ensures.refusals ∙ c.in-Ok.ensures.making.refusals) c.spread_rest.result c.spread_rest.ensures.spreads

-- the keys before the place are at most those of the leaf
before : (n from : ℕ) (l : Entries ℕ) → n ≡ length (take from l) → n ≤ length l
before n from l is = let t = length-take from l in omega (arith, is, t)

-- ---- how many blocks it takes

pub returns-in_default-put_child-clause-memory : goal.returns-in_default-put_child-clause-memory
returns-in_default-put_child-clause-memory t c =
    let more : c.args.place < length (leaf_entries c.args.values c.args.arena.now.blocks c.args.leaf) =
    (let h = c.requires.place in let n = c.if-place-population.false in let m = c.population.ensures in omega arith) in
    takes-rests (2 * (length (leaf_entries c.args.values c.args.arena.now.blocks c.args.leaf) - c.args.place)) c.args.arena.now c.release.new.arena c.clear-in_default-put_child.new.arena
    (takes-rests (2 * (length (leaf_entries c.args.values c.args.arena.now.blocks c.args.leaf) - c.args.place)) c.args.arena.now c.put_child.new.arena c.release.new.arena
    (takes-both 1 0 (2 * (length (leaf_entries c.args.values c.args.arena.now.blocks c.args.leaf) - c.args.place)) c.args.arena.now c.part.new.arena c.put_child.new.arena (omega (arith, more))
    c.in-Ok.ensures.memory c.in_default-put_child.ensures.memory) c.release.ensures.memory) c.clear-in_default-put_child.ensures.memory

pub returns-clause-memory : goal.returns-clause-memory
returns-clause-memory t c =
    let at = at-view _ _ _ _ c.key_at-key.result c.in-Some.byte c.head-branch.ensures.level c.head-branch.ensures.prefix c.in-Some.ensures.some in
    let n = next-by c.args.values c.args.arena.now.blocks c.part.new.arena.blocks c.put_child.new.arena.blocks c.args.leaf
    c.args.node c.in-Ok-put_child.wider c.in-Some.byte c.in-Ok.part c.args.place c.run-count.result c.key_at-key.result
    c.from.result
    c.requires (c.from.ensures ∙ c.head-branch.ensures.level) c.run-count.ensures c.key_at-key.ensures at c.in-Ok.ensures.making.leaf
    c.in-Ok.ensures.making.entries c.in-Ok.ensures.making.frame
    c.in-Ok-put_child.ensures.put.branch c.in-Ok-put_child.ensures.put.view c.in-Ok-put_child.ensures.frame in
    let e = ap length n.kept.entries in
    let some = c.run-count.ensures.some in
    let within = c.run-count.ensures.within in
    takes-both 2 (2 * (length (leaf_entries c.args.values c.put_child.new.arena.blocks c.args.leaf) - (c.args.place + c.run-count.result)))
    (2 * (length (leaf_entries c.args.values c.args.arena.now.blocks c.args.leaf) - c.args.place))
    c.args.arena.now c.put_child.new.arena c.spread_rest.new.arena (omega (arith, e, some, within))
    (takes-both 1 1 2 c.args.arena.now c.part.new.arena c.put_child.new.arena (omega arith) c.in-Ok.ensures.memory
    c.in-Ok-put_child.ensures.memory) c.spread_rest.ensures.memory
