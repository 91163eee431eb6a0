use Rattle.std.proofs.Common.{◌+◌, set, get_or, sym, subst}
use Rattle.judy_model.specs.Contents.{word_order, with_entry}
use Rattle.judy_branch.specs.declared.shape.Shape.TheVariants.{Full}
use Rattle.judy_branch.specs.Children.{children_in}
use Rattle.judy_branch.specs.Written.{BranchBecomes}
use Rattle.judy_branch.proofs.Becoming.{full-inserted}
use Rattle.judy_branch.proofs.full.insert.Goals as goal

pub returns : goal.returns
returns c =
    subst (λ j. BranchBecomes Full c.args.words.now (set (set c.args.words.now (3 + j) c.args.child) 0
    (get_or c.args.words.now 0 0 + 1)) (with_entry word_order (children_in Full c.args.words.now) c.args.byte c.args.child))
    (sym c.from.ensures)
    (full-inserted c.args.words.now c.args.byte c.args.child c.requires.laid c.ranges.byte.fits c.requires.child c.requires.absent c.requires.few)
