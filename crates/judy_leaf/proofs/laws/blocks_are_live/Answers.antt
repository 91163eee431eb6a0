use Rattle.judy_leaf.proofs.lemmas.OwnBlock.{are_live}
use Rattle.judy_leaf.proofs.laws.blocks_are_live.Goals as goal

pub returns : goal.returns
returns c = are_live
