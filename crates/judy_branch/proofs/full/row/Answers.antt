use Rattle.std.proofs.Common.{◌+◌, ◌-◌, take, drop, sym, subst, arith}
use Rattle.judy_branch.specs.declared.shape.Shape.TheVariants.{Full}
use Rattle.judy_branch.specs.Children.{children_in}
use Rattle.judy_branch.specs.Rows.{IsChildRow}
use Rattle.judy_branch.proofs.Rows.{row-full}
use Rattle.judy_branch.proofs.full.row.Goals as goal

pub returns : goal.returns
returns c =
    let small = c.ranges.byte.fits in
    subst (λ z. IsChildRow (children_in Full c.args.words.now) c.args.byte (take (259 - (3 + z)) (drop (3 + z) c.args.words.now))) (sym c.from.ensures)
    (row-full c.args.words.now c.args.byte (259 - (3 + c.args.byte)) (omega arith) c.requires.room)
