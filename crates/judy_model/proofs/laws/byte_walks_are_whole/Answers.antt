use Rattle.judy_model.proofs.WalkLaws.{byte_walks_are_whole}
use Rattle.judy_model.proofs.laws.byte_walks_are_whole.Goals as goal

pub returns : goal.returns
returns c = byte_walks_are_whole
