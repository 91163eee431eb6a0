use Rattle.judy_string.proofs.nodes.+get.Given as goal

abbrev pub decreases-get : goal.decreases-get
decreases-get l = l.room
