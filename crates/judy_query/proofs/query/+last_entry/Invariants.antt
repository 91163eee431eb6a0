use Rattle.std.proofs.Common.{◌-◌}
use Rattle.judy_tree.specs.Nodes.{depth}
use Rattle.judy_query.proofs.query.+last_entry.Given as goal

abbrev pub decreases-last_entry : goal.decreases-last_entry
decreases-last_entry l = 8 - depth l.arena.now.blocks l.node
