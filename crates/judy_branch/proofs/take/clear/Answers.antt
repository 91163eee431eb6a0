use Rattle.std.proofs.Common.{sym, subst}
use Rattle.judy_branch.specs.declared.shape.Shape.TheVariants.{Linear, Bitmap}
use Rattle.judy_branch.specs.Written.{IsEmptied}
use Rattle.judy_branch.proofs.Taking.{emptied-linear, emptied-bitmap}
use Rattle.judy_branch.proofs.take.clear.Goals as goal

pub returns-clause-linear : goal.returns-clause-linear
returns-clause-linear c = subst (IsEmptied Linear c.args.words.now) (sym c.copy_in.ensures) (emptied-linear c.args.words.now c.requires)

pub returns-clause-bitmap : goal.returns-clause-bitmap
returns-clause-bitmap c = subst (IsEmptied Bitmap c.args.words.now) (sym c.copy_in.ensures) (emptied-bitmap c.args.words.now c.requires)
