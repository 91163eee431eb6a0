use Rattle.std.proofs.Common.{◌≡◌, ap, sym, ◌∙◌, subst}
use Rattle.judy_branch.specs.Branch.{branch_view, branch_words, view_in}
use Rattle.judy_branch.specs.Children.{IsShaped, level_in, prefix_in, population_in}
use Rattle.judy_branch.proofs.Branches.{has-shape, is-shaped, children-are}
use Rattle.judy_branch.proofs.seen.open.Goals as goal

pub read_shape-requires : goal.read_shape-requires
read_shape-requires c = has-shape c.args.arena.now.blocks c.args.branch c.requires

pub invariant_of-result : goal.invariant_of-result
invariant_of-result c = subst (IsShaped c.read_shape.result) (sym c.look.ensures.words)
    (is-shaped c.args.arena.now.blocks c.args.branch c.requires c.read_shape.result c.read_shape.ensures)

pub returns : goal.returns
unfolding branch_view
returns c =
    let b = c.args.arena.now.blocks in
    let w = c.args.branch in
    let head : view_in c.read_shape.result (branch_words b w) ≡ branch_view b w =
    ap (λ es. record {
      level = level_in (branch_words b w);
      prefix = prefix_in (branch_words b w);
      population = population_in
          (branch_words b w);
      children = es;
    }) (sym (children-are b w c.read_shape.result c.read_shape.ensures)) in
    ap (view_in c.read_shape.result) c.look.ensures.words ∙ head
