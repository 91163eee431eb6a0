use Rattle.std.proofs.Common.{◌-◌}
use Rattle.judy_tree.specs.Nodes.{depth}
use Rattle.judy_query.proofs.query.+count.Given as goal

abbrev pub decreases-count : goal.decreases-count
decreases-count l = 8 - depth l.arena.now.blocks l.node
