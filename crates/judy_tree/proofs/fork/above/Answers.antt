use Rattle.std.proofs.Common.{◌+◌, ap, sym, ◌∙◌, subst, [], arith}
use Rattle.judy_arena.specs.Blocks.{count_up}
use Rattle.judy_arena.specs.Frame.{Frame}
use Rattle.judy_leaf.specs.Leaf.{IsLeaf, leaf_numbers}
use Rattle.judy_tree.proofs.Changes.{given-back}
use Rattle.judy_tree.proofs.Steps.{one-fits, leaf-some, some-node}
use Rattle.judy_tree.proofs.Forks.{forked, fork-grows, other-head}
use Rattle.judy_arena.proofs.lemmas.TakeLaws.{takes-more}
use Rattle.judy_tree.proofs.fork.above.Goals as goal

pub overflow_add-keys : goal.overflow_add-keys
overflow_add-keys c = let h = one-fits c.args.values c.args.arena.now.blocks c.args.node c.requires.root c.population-keys.result
    c.population-keys.ensures in omega arith

pub returns-in_default-clause-insertion : goal.returns-in_default-clause-insertion
returns-in_default-clause-insertion c = (
  other-head c.args.values c.args.arena.now.blocks c.args.node c.args.sample c.args.key
      c.difference-level.result (c.requires.fork c.difference-level.result c.difference-level.ensures) c.difference-level.ensures,
  record { blocks = c.in_default.ensures.making.0; refusals = c.in_default.ensures.making.1 },
)

pub returns-in_default-clause-memory : goal.returns-in_default-clause-memory
returns-in_default-clause-memory c = takes-more 0 2 c.args.arena.now c.single.new.arena (omega arith) c.in_default.ensures.memory

pub fork-requires-clause-level : goal.fork-requires-clause-level
fork-requires-clause-level c = (c.requires.fork c.difference-level.result c.difference-level.ensures).1

pub fork-requires-clause-node : goal.fork-requires-clause-node
fork-requires-clause-node c = some-node c.args.values c.args.arena.now.blocks c.args.node c.requires.some

pub fork-requires-clause-made : goal.fork-requires-clause-made
fork-requires-clause-made c = leaf-some c.args.values c.single.new.arena.blocks c.in-Ok.made c.args.key c.args.value c.in-Ok.ensures.making.entries

pub release-requires : goal.release-requires
release-requires c = subst (λ z. IsLeaf c.args.values z c.in-Ok.made) (sym c.in_default-fork.ensures.forks.blocks) c.in-Ok.ensures.making.leaf

pub returns-in_default-fork-clause-insertion : goal.returns-in_default-fork-clause-insertion
returns-in_default-fork-clause-insertion c = (
  other-head c.args.values c.args.arena.now.blocks c.args.node c.args.sample c.args.key c.difference-level.result
      (c.requires.fork c.difference-level.result c.difference-level.ensures) c.difference-level.ensures,
  record {
    blocks = given-back c.args.arena.now.blocks c.single.new.arena.blocks c.release.new.arena.blocks
        (leaf_numbers c.single.new.arena.blocks c.in-Ok.made) c.in-Ok.ensures.making.frame
        (subst (λ z. Frame z c.release.new.arena.blocks (leaf_numbers z c.in-Ok.made) []) c.in_default-fork.ensures.forks.blocks c.release.ensures.frame);
    refusals = c.release.ensures.memory.refusals ∙ c.in_default-fork.ensures.forks.refusals ∙ ap count_up c.in-Ok.ensures.making.refusals;
  },
)

pub returns-clause-insertion : goal.returns-clause-insertion
returns-clause-insertion c =
    let h = c.requires.fork c.difference-level.result c.difference-level.ensures in (
      other-head c.args.values c.args.arena.now.blocks c.args.node c.args.sample c.args.key c.difference-level.result h c.difference-level.ensures,
      fork-grows c.args.values c.args.arena.now c.fork.new.arena c.args.node c.in-Ok-fork.root c.difference-level.result
          c.args.sample c.args.key c.args.value c.requires.root c.requires.some h c.difference-level.ensures
          (forked c.args.values c.args.arena.now.blocks c.single.new.arena.blocks c.fork.new.arena.blocks c.args.node c.in-Ok.made
          c.in-Ok-fork.root c.difference-level.result c.args.sample c.args.key c.args.value (c.population-keys.result + 1)
          c.requires.root c.requires.some h.1 h.0 h.2 c.difference-level.ensures.differ c.in-Ok.ensures.making.leaf
          c.in-Ok.ensures.making.entries c.in-Ok.ensures.making.frame
          c.in-Ok-fork.ensures.forks.branch c.in-Ok-fork.ensures.forks.view c.in-Ok-fork.ensures.forks.frame (ap (λ n. n + 1) c.population-keys.ensures))
          (c.in-Ok-fork.ensures.forks.refusals ∙ c.in-Ok.ensures.making.refusals),
    )
