use Rattle.judy_model.proofs.AnswerLaws.{calls_keep_others}
use Rattle.judy_model.proofs.laws.calls_keep_other_arrays.Goals as goal

pub returns : goal.returns
returns c = calls_keep_others
