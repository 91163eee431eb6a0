use Rattle.judy_journal.proofs.Damaging as law
use Rattle.judy_journal.proofs.laws.crashes_keep_marks.Goals as goal

pub returns : goal.returns
returns c = law.crashes_keep_marks
