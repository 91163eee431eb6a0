use Rattle.std.proofs.Common.{ap, sym, ◌∙◌, subst, [], arith}
use Rattle.judy_arena.specs.Blocks.{count_up}
use Rattle.judy_arena.specs.Frame.{Frame}
use Rattle.judy_model.specs.Contents.{word_order, has_key}
use Rattle.judy_leaf.specs.Leaf.{leaf_numbers}
use Rattle.judy_tree.specs.Root.{numbers}
use Rattle.judy_tree.proofs.lemmas.Trees.{root-top}
use Rattle.judy_tree.proofs.lemmas.Joins.{kid}
use Rattle.judy_tree.proofs.Changes.{given-back}
use Rattle.judy_tree.proofs.Steps.{joined-by, one-fits, population-is, own-kept, no-value, absent-in, leaf-some}
use Rattle.judy_tree.proofs.Forks.{grows}
use Rattle.judy_arena.proofs.lemmas.TakeLaws.{takes-more}
use Rattle.judy_tree.proofs.fork.beside.Goals as goal

pub population-population-requires : goal.population-population-requires
population-population-requires c = (root-top c.args.values c.args.arena.now.blocks c.args.node c.requires.branch c.requires.root).branch

pub returns-in_default-clause-insertion : goal.returns-in_default-clause-insertion
returns-in_default-clause-insertion c = (
  absent-in c.args.values c.args.arena.now.blocks c.args.node c.args.byte c.args.key
      c.requires.branch c.requires.root c.requires.byte c.requires.none,
  record { blocks = c.in_default.ensures.making.0; refusals = c.in_default.ensures.making.1 },
)

pub returns-in_default-clause-memory : goal.returns-in_default-clause-memory
returns-in_default-clause-memory c = takes-more 0 2 c.args.arena.now c.single.new.arena (omega arith) c.in_default.ensures.memory

pub overflow_add-population : goal.overflow_add-population
overflow_add-population c =
    let h = one-fits c.args.values c.args.arena.now.blocks c.args.node c.requires.root c.population-population.result
    (c.population-population.ensures ∙ population-is c.args.values c.args.arena.now.blocks c.args.node c.requires.branch c.requires.root) in
    omega arith

pub put_child-requires-clause-branch : goal.put_child-requires-clause-branch
put_child-requires-clause-branch c =
    (own-kept c.args.values c.args.arena.now.blocks c.args.node c.args.byte c.requires.branch c.requires.root
    c.single.new.arena.blocks (leaf_numbers c.single.new.arena.blocks c.in-Ok.made)
    (subst (λ o. Frame c.args.arena.now.blocks c.single.new.arena.blocks (kid (numbers c.args.arena.now.blocks) o)
    (leaf_numbers c.single.new.arena.blocks c.in-Ok.made)) (sym (no-value _ c.args.byte c.requires.none))
    c.in-Ok.ensures.making.frame)).branch

pub put_child-requires-clause-absent : goal.put_child-requires-clause-absent
put_child-requires-clause-absent c =
    ap (λ t. has_key word_order t.children c.args.byte)
    (own-kept c.args.values c.args.arena.now.blocks c.args.node c.args.byte c.requires.branch c.requires.root
    c.single.new.arena.blocks (leaf_numbers c.single.new.arena.blocks c.in-Ok.made)
    (subst (λ o. Frame c.args.arena.now.blocks c.single.new.arena.blocks (kid (numbers c.args.arena.now.blocks) o)
    (leaf_numbers c.single.new.arena.blocks c.in-Ok.made)) (sym (no-value _ c.args.byte c.requires.none))
    c.in-Ok.ensures.making.frame)).view
    ∙ c.requires.none

pub put_child-requires-clause-child : goal.put_child-requires-clause-child
put_child-requires-clause-child c = leaf-some c.args.values c.single.new.arena.blocks c.in-Ok.made c.args.key c.args.value c.in-Ok.ensures.making.entries

pub returns-in_default-put_child-clause-insertion : goal.returns-in_default-put_child-clause-insertion
returns-in_default-put_child-clause-insertion c = (
  absent-in c.args.values c.args.arena.now.blocks c.args.node c.args.byte c.args.key c.requires.branch c.requires.root c.requires.byte c.requires.none,
  record {
    blocks = given-back c.args.arena.now.blocks c.single.new.arena.blocks c.release.new.arena.blocks
        (leaf_numbers c.single.new.arena.blocks c.in-Ok.made) c.in-Ok.ensures.making.frame
        (subst (λ z. Frame z c.release.new.arena.blocks (leaf_numbers z c.in-Ok.made) []) c.in_default-put_child.ensures.unchanged c.release.ensures.frame);
    refusals = c.release.ensures.memory.refusals ∙ c.in_default-put_child.ensures.refusals ∙ ap count_up c.in-Ok.ensures.making.refusals;
  },
)

pub returns-clause-insertion : goal.returns-clause-insertion
returns-clause-insertion c = (
  absent-in c.args.values c.args.arena.now.blocks c.args.node c.args.byte c.args.key c.requires.branch c.requires.root c.requires.byte c.requires.none,
  grows c.args.values c.args.arena.now c.put_child.new.arena c.args.node c.in-Ok-put_child.root c.args.key c.args.value
      (joined-by c.args.values c.args.arena.now.blocks c.single.new.arena.blocks c.put_child.new.arena.blocks c.args.node
      c.in-Ok-put_child.root c.args.byte c.in-Ok.made c.args.key c.args.value c.population-population.result
      c.requires.branch c.requires.root c.requires.none c.requires.byte c.population-population.ensures c.in-Ok.ensures.making.leaf
      c.in-Ok.ensures.making.entries c.in-Ok.ensures.making.frame
      c.in-Ok-put_child.ensures.put.branch c.in-Ok-put_child.ensures.put.view c.in-Ok-put_child.ensures.frame)
      (c.in-Ok-put_child.ensures.refusals ∙ c.in-Ok.ensures.making.refusals),
)
