use Rattle.judy_string.proofs.nodes.+remove.Given as goal

abbrev pub decreases-remove : goal.decreases-remove
decreases-remove l = l.room
