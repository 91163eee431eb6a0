use Rattle.std.proofs.Common.{rules}
use Rattle.judy_table.proofs.Trees.{have_shape_members_view}
use Rattle.judy_table.proofs.table.have_shape.Goals as goal

pub loop-value-init : goal.loop-value-init
loop-value-init c = (search rules, search rules, rw have_shape_members_view (search rules))
