use Rattle.judy_string.proofs.MapLaws.{blocks-are-live}
use Rattle.judy_string.proofs.laws.blocks_are_live.Goals as goal

pub returns : goal.returns
returns c = blocks-are-live
