use Rattle.judy_leaf.proofs.lemmas.OwnBlock.{others-stay}
use Rattle.judy_leaf.proofs.laws.others_stay.Goals as goal

pub returns : goal.returns
returns c = others-stay
