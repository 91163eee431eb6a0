use Rattle.judy_string.proofs.insertion.+insert.Given as goal

abbrev pub decreases-insert : goal.decreases-insert
decreases-insert l = l.room
