use Rattle.std.proofs.Common.{◌-◌}
use Rattle.judy_tree.specs.Nodes.{depth}
use Rattle.judy_query.proofs.query.+by_count.Given as goal

abbrev pub decreases-by_count : goal.decreases-by_count
decreases-by_count l = 8 - depth l.arena.now.blocks l.node
