use Rattle.judy_model.proofs.SoloLemmas.{solo_is_stepwise}
use Rattle.judy_model.proofs.laws.runs_are_stepwise.Goals as goal

pub returns : goal.returns
returns c = solo_is_stepwise
