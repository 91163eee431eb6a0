use Rattle.judy_string.proofs.MapLaws.{others-stay}
use Rattle.judy_string.proofs.laws.others_stay.Goals as goal

pub returns : goal.returns
returns c = others-stay
