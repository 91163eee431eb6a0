use Rattle.std.proofs.Common.{◌-◌}
use Rattle.judy_tree.specs.Nodes.{depth}
use Rattle.judy_tree.proofs.node.+write.Given as goal

abbrev pub decreases-write : goal.decreases-write
decreases-write l = 8 - depth l.arena.now.blocks l.node
