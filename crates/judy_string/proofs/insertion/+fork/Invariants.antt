use Rattle.judy_string.proofs.insertion.+fork.Given as goal

abbrev pub decreases-fork : goal.decreases-fork
decreases-fork l = l.room
