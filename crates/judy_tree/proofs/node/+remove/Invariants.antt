use Rattle.std.proofs.Common.{◌-◌}
use Rattle.judy_tree.specs.Nodes.{depth}
use Rattle.judy_tree.proofs.node.+remove.Given as goal

abbrev pub decreases-remove : goal.decreases-remove
decreases-remove l = 8 - depth l.arena.now.blocks l.node
