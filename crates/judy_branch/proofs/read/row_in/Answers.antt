use Rattle.std.proofs.Common.{subst, sym}
use Rattle.judy_branch.specs.Children.{children_in}
use Rattle.judy_branch.specs.Rows.{IsChildRow}
use Rattle.judy_branch.proofs.read.row_in.Goals as goal

pub returns-in-Linear : goal.returns-in-Linear
returns-in-Linear c = subst (λ s. IsChildRow (children_in s c.args.words.now) c.args.byte c.row.result.now) (sym c.in-Linear.is) c.row.ensures
