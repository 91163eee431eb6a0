use Rattle.judy_model.proofs.WalkLaws.{walks_are_takes}
use Rattle.judy_model.proofs.laws.walks_are_takes.Goals as goal

pub returns : goal.returns
returns c = walks_are_takes
