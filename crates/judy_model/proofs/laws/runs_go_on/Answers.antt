use Rattle.judy_model.proofs.SoloLemmas.{solo_goes_on}
use Rattle.judy_model.proofs.laws.runs_go_on.Goals as goal

pub returns : goal.returns
returns c = solo_goes_on
