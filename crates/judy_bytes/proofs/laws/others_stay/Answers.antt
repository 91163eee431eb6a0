use Rattle.judy_bytes.proofs.MapLaws.{others-stay}
use Rattle.judy_bytes.proofs.laws.others_stay.Goals as goal

pub returns : goal.returns
returns c = others-stay
