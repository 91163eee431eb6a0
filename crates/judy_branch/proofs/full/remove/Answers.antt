use Rattle.std.proofs.Common.{◌+◌, ◌-◌, set, get_or, sym, subst}
use Rattle.judy_model.specs.Contents.{word_order, without_key}
use Rattle.judy_branch.specs.declared.shape.Shape.TheVariants.{Full}
use Rattle.judy_branch.specs.Children.{children_in}
use Rattle.judy_branch.specs.Written.{BranchBecomes}
use Rattle.judy_branch.proofs.Becoming.{full-removed}
use Rattle.judy_branch.proofs.full.remove.Goals as goal

pub returns : goal.returns
returns c =
    subst (λ j. BranchBecomes Full c.args.words.now (set (set c.args.words.now (3 + j) 0) 0 (get_or c.args.words.now 0 0 - 1))
    (without_key word_order (children_in Full c.args.words.now) c.args.byte)) (sym c.from.ensures)
    (full-removed c.args.words.now c.args.byte c.requires.laid c.ranges.byte.fits c.requires.there)
