use Rattle.judy_model.proofs.lemmas.GapLaws.{gaps_are_found}
use Rattle.judy_model.proofs.laws.gaps_are_found.Goals as goal

pub returns : goal.returns
returns c = gaps_are_found
