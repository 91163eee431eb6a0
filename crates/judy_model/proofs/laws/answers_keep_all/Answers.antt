use Rattle.judy_model.proofs.AnswerLaws.{answers_keep_all}
use Rattle.judy_model.proofs.laws.answers_keep_all.Goals as goal

pub returns : goal.returns
returns c = answers_keep_all
