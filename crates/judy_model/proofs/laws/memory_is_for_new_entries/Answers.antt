use Rattle.judy_model.proofs.AnswerLaws.{memory_is_for_new}
use Rattle.judy_model.proofs.laws.memory_is_for_new_entries.Goals as goal

pub returns : goal.returns
returns c = memory_is_for_new
