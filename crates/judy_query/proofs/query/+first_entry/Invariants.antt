use Rattle.std.proofs.Common.{◌-◌}
use Rattle.judy_tree.specs.Nodes.{depth}
use Rattle.judy_query.proofs.query.+first_entry.Given as goal

abbrev pub decreases-first_entry : goal.decreases-first_entry
decreases-first_entry l = 8 - depth l.arena.now.blocks l.node
