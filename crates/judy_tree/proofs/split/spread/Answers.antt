use Rattle.std.proofs.Common.{◌+◌, ◌-◌, ◌*◌, [], length, ap, sym, ◌∙◌, subst, arith}
use Rattle.judy_arena.specs.Blocks.{count_up}
use Rattle.judy_arena.specs.Frame.{Frame}
use Rattle.judy_leaf.specs.Leaf.{IsLeaf, leaf_entries, leaf_numbers}
use Rattle.judy_arena.proofs.lemmas.TakeLaws.{takes-both, takes-rests}
use Rattle.judy_tree.proofs.Changes.{given-back}
use Rattle.judy_tree.proofs.Steps.{some-leaf}
use Rattle.judy_tree.proofs.Spreads.{paired-by, paired-partly, spread-ends, leaf-rests, stretch_length}
use Rattle.judy_tree.proofs.split.spread.Goals as goal

pub part-requires-2-clause-leaf : goal.part-requires-2-clause-leaf
part-requires-2-clause-leaf c = (leaf-rests c.args.values c.args.arena.now.blocks c.part.new.arena.blocks c.args.leaf
    (leaf_numbers c.part.new.arena.blocks c.in-Ok.low) c.requires.leaf c.in-Ok.ensures.making.frame).leaf

pub part-requires-2-clause-within : goal.part-requires-2-clause-within
part-requires-2-clause-within c =
    let e = ap length (leaf-rests c.args.values c.args.arena.now.blocks c.part.new.arena.blocks c.args.leaf
    (leaf_numbers c.part.new.arena.blocks c.in-Ok.low) c.requires.leaf c.in-Ok.ensures.making.frame).entries in
    let w = c.run-second.ensures.within in
    omega arith

pub returns-in_default-part-clause-spreads : goal.returns-in_default-part-clause-spreads
returns-in_default-part-clause-spreads c =
    record {
      blocks = given-back c.args.arena.now.blocks c.part.new.arena.blocks c.release.new.arena.blocks
          (leaf_numbers c.part.new.arena.blocks c.in-Ok.low) c.in-Ok.ensures.making.frame
          (subst (λ z. Frame z c.release.new.arena.blocks (leaf_numbers z c.in-Ok.low) []) c.in_default-part.ensures.making.0 c.release.ensures.frame);
      refusals = c.release.ensures.memory.refusals ∙ c.in_default-part.ensures.making.1 ∙ ap count_up c.in-Ok.ensures.making.refusals;
    }

pub fork-requires-clause-node : goal.fork-requires-clause-node
fork-requires-clause-node c =
    let n = ap length c.in-Ok.ensures.making.entries ∙ stretch_length (leaf_entries c.args.values c.args.arena.now.blocks c.args.leaf) 0
    c.run-first.result c.run-first.ensures.within in
    let s = c.run-first.ensures.some in
    some-leaf c.args.values c.part.new.arena.blocks c.in-Ok.low (omega arith)

pub fork-requires-clause-made : goal.fork-requires-clause-made
fork-requires-clause-made c =
    let e = ap length (leaf-rests c.args.values c.args.arena.now.blocks c.part.new.arena.blocks c.args.leaf
    (leaf_numbers c.part.new.arena.blocks c.in-Ok.low) c.requires.leaf c.in-Ok.ensures.making.frame).entries in
    let w = c.run-second.ensures.within in
    let n = ap length c.in-Ok-part.ensures.making.entries ∙ stretch_length (leaf_entries c.args.values c.part.new.arena.blocks
    c.args.leaf) c.run-first.result c.run-second.result (omega arith) in
    let s = c.run-second.ensures.some in
    some-leaf c.args.values c.part-2.new.arena.blocks c.in-Ok-part.high (omega arith)

pub release-requires-in_default-fork-2 : goal.release-requires-in_default-fork-2
release-requires-in_default-fork-2 c =
    let same = given-back c.part.new.arena.blocks c.part-2.new.arena.blocks c.release-in_default-fork.new.arena.blocks
    (leaf_numbers c.part-2.new.arena.blocks c.in-Ok-part.high) c.in-Ok-part.ensures.making.frame
    (subst (λ z. Frame z c.release-in_default-fork.new.arena.blocks (leaf_numbers z c.in-Ok-part.high) [])
    c.in_default-fork.ensures.forks.blocks c.release-in_default-fork.ensures.frame) in
    subst (λ z. IsLeaf c.args.values z c.in-Ok.low) (sym same) c.in-Ok.ensures.making.leaf

pub returns-in_default-fork-clause-spreads : goal.returns-in_default-fork-clause-spreads
returns-in_default-fork-clause-spreads c =
    let same = given-back c.part.new.arena.blocks c.part-2.new.arena.blocks c.release-in_default-fork.new.arena.blocks
    (leaf_numbers c.part-2.new.arena.blocks c.in-Ok-part.high) c.in-Ok-part.ensures.making.frame
    (subst (λ z. Frame z c.release-in_default-fork.new.arena.blocks (leaf_numbers z c.in-Ok-part.high) [])
    c.in_default-fork.ensures.forks.blocks c.release-in_default-fork.ensures.frame) in
    record {
      blocks = given-back c.args.arena.now.blocks c.part.new.arena.blocks c.release-in_default-fork-2.new.arena.blocks
          (leaf_numbers c.part.new.arena.blocks c.in-Ok.low) c.in-Ok.ensures.making.frame
          (subst (λ z. Frame z c.release-in_default-fork-2.new.arena.blocks (leaf_numbers z c.in-Ok.low) []) same c.release-in_default-fork-2.ensures.frame);
      refusals = c.release-in_default-fork-2.ensures.memory.refusals ∙ c.release-in_default-fork.ensures.memory.refusals ∙ c.in_default-fork.ensures.forks.refusals
          ∙ ap count_up (c.in-Ok-part.ensures.making.refusals ∙ c.in-Ok.ensures.making.refusals);
    }

pub spread_rest-requires : goal.spread_rest-requires
spread_rest-requires c =
    let p = paired-by c.args.values c.args.arena.now.blocks c.part.new.arena.blocks c.part-2.new.arena.blocks
    c.fork.new.arena.blocks c.args.leaf c.in-Ok-fork.two c.in-Ok.low c.in-Ok-part.high c.args.level
    c.key_at-sample.result c.key_at-other.result c.run-first.result c.run-second.result c.requires c.key_at-sample.ensures
    c.key_at-other.ensures c.run-first.ensures c.run-second.ensures
    c.in-Ok.ensures.making.leaf c.in-Ok.ensures.making.entries c.in-Ok.ensures.making.frame c.in-Ok-part.ensures.making.leaf
    c.in-Ok-part.ensures.making.entries c.in-Ok-part.ensures.making.frame
    c.in-Ok-fork.ensures.forks.branch c.in-Ok-fork.ensures.forks.view c.in-Ok-fork.ensures.forks.frame in
    paired-partly c.args.values c.args.arena.now.blocks c.fork.new.arena.blocks c.args.leaf c.in-Ok-fork.two c.args.level
    (c.run-first.result + c.run-second.result) c.requires p c.in-Ok-fork.ensures.forks.branch c.run-second.ensures.within

pub returns-clause-spreads : goal.returns-clause-spreads
returns-clause-spreads c =
    let p = paired-by c.args.values c.args.arena.now.blocks c.part.new.arena.blocks c.part-2.new.arena.blocks
    c.fork.new.arena.blocks c.args.leaf c.in-Ok-fork.two c.in-Ok.low c.in-Ok-part.high c.args.level
    c.key_at-sample.result c.key_at-other.result c.run-first.result c.run-second.result c.requires c.key_at-sample.ensures
    c.key_at-other.ensures c.run-first.ensures c.run-second.ensures
    c.in-Ok.ensures.making.leaf c.in-Ok.ensures.making.entries c.in-Ok.ensures.making.frame c.in-Ok-part.ensures.making.leaf
    c.in-Ok-part.ensures.making.entries c.in-Ok-part.ensures.making.frame
    c.in-Ok-fork.ensures.forks.branch c.in-Ok-fork.ensures.forks.view c.in-Ok-fork.ensures.forks.frame in
    spread-ends c.args.values c.args.arena.now c.fork.new.arena c.spread_rest.new.arena c.args.leaf c.in-Ok-fork.two c.args.level
    (c.run-first.result + c.run-second.result) p
    (c.in-Ok-fork.ensures.forks.refusals ∙ c.in-Ok-part.ensures.making.refusals ∙ c.in-Ok.ensures.making.refusals) c.spread_rest.result c.spread_rest.ensures.spreads

-- ---- how many blocks it takes

pub returns-in_default-part-clause-memory : goal.returns-in_default-part-clause-memory
returns-in_default-part-clause-memory c = takes-rests 62 c.args.arena.now c.part-2.new.arena c.release.new.arena
    (takes-both 1 0 62 c.args.arena.now c.part.new.arena c.part-2.new.arena (omega arith) c.in-Ok.ensures.memory c.in_default-part.ensures.memory)
    c.release.ensures.memory

pub returns-in_default-fork-clause-memory : goal.returns-in_default-fork-clause-memory
returns-in_default-fork-clause-memory c =
    takes-rests 62 c.args.arena.now c.release-in_default-fork.new.arena c.release-in_default-fork-2.new.arena
    (takes-rests 62 c.args.arena.now c.fork.new.arena c.release-in_default-fork.new.arena
    (takes-both 2 0 62 c.args.arena.now c.part-2.new.arena c.fork.new.arena (omega arith)
    (takes-both 1 1 2 c.args.arena.now c.part.new.arena c.part-2.new.arena (omega arith) c.in-Ok.ensures.memory c.in-Ok-part.ensures.memory)
    c.in_default-fork.ensures.memory) c.release-in_default-fork.ensures.memory) c.release-in_default-fork-2.ensures.memory

pub returns-clause-memory : goal.returns-clause-memory
returns-clause-memory c =
    let p = paired-by c.args.values c.args.arena.now.blocks c.part.new.arena.blocks c.part-2.new.arena.blocks
    c.fork.new.arena.blocks c.args.leaf c.in-Ok-fork.two c.in-Ok.low c.in-Ok-part.high c.args.level
    c.key_at-sample.result c.key_at-other.result c.run-first.result c.run-second.result c.requires c.key_at-sample.ensures
    c.key_at-other.ensures c.run-first.ensures c.run-second.ensures
    c.in-Ok.ensures.making.leaf c.in-Ok.ensures.making.entries c.in-Ok.ensures.making.frame c.in-Ok-part.ensures.making.leaf
    c.in-Ok-part.ensures.making.entries c.in-Ok-part.ensures.making.frame
    c.in-Ok-fork.ensures.forks.branch c.in-Ok-fork.ensures.forks.view c.in-Ok-fork.ensures.forks.frame in
    let e = ap length p.kept.entries in
    let few = c.requires.few in
    let one = c.run-first.ensures.some in
    let two = c.run-second.ensures.some in
    let within = c.run-second.ensures.within in
    takes-both 3 (2 * (length (leaf_entries c.args.values c.fork.new.arena.blocks c.args.leaf) - (c.run-first.result + c.run-second.result))) 62
    c.args.arena.now c.fork.new.arena c.spread_rest.new.arena (omega (arith, e, few, one, two, within))
    (takes-both 2 1 3 c.args.arena.now c.part-2.new.arena c.fork.new.arena (omega arith)
    (takes-both 1 1 2 c.args.arena.now c.part.new.arena c.part-2.new.arena (omega arith) c.in-Ok.ensures.memory c.in-Ok-part.ensures.memory)
    c.in-Ok-fork.ensures.memory) c.spread_rest.ensures.memory
