use Rattle.judy_model.proofs.SoloLemmas.{alone_goes_on}
use Rattle.judy_model.proofs.laws.calls_go_on.Goals as goal

pub returns : goal.returns
returns c = alone_goes_on
