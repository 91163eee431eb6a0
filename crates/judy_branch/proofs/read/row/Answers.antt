use Rattle.std.proofs.Common.{subst, sym}
use Rattle.judy_branch.specs.Rows.{IsChildRow}
use Rattle.judy_branch.proofs.Branches.{has-shape, laid-words, children-words}
use Rattle.judy_branch.proofs.read.row.Goals as goal

pub read_shape-requires : goal.read_shape-requires
read_shape-requires c = has-shape c.args.arena.now.blocks c.args.branch c.requires

pub row_in-requires : goal.row_in-requires
row_in-requires c = laid-words c.args.arena.now.blocks c.args.branch c.read_shape.result c.look.result.now c.read_shape.ensures c.look.ensures.words c.requires

pub returns : goal.returns
returns c =
    let e = children-words c.args.arena.now.blocks c.args.branch c.read_shape.result c.look.result.now c.read_shape.ensures c.look.ensures.words in
    subst (λ es. IsChildRow es c.args.byte c.row_in.result.now) (sym e) c.row_in.ensures
