use Rattle.judy_model.proofs.UnchangedLaws.{unchanged_are_told}
use Rattle.judy_model.proofs.laws.unchanged_are_told.Goals as goal

pub returns : goal.returns
returns c = unchanged_are_told
