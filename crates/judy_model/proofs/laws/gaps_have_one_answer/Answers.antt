use Rattle.judy_model.proofs.lemmas.GapLaws.{gaps_have_one_answer}
use Rattle.judy_model.proofs.laws.gaps_have_one_answer.Goals as goal

pub returns : goal.returns
returns c = gaps_have_one_answer
