use Rattle.judy_string.proofs.nodes.+write.Given as goal

abbrev pub decreases-write : goal.decreases-write
decreases-write l = l.room
