use Rattle.judy_string.proofs.Whole.{empty-sound, empty-content}
use Rattle.judy_string.proofs.array.JudySL.new.Goals as goal

pub returns-clause-sound : goal.returns-clause-sound
returns-clause-sound c = empty-sound

pub returns-clause-empty : goal.returns-clause-empty
returns-clause-empty c = empty-content
