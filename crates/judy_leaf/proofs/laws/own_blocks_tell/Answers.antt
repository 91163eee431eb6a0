use Rattle.judy_leaf.proofs.lemmas.OwnBlock.{own_tell}
use Rattle.judy_leaf.proofs.laws.own_blocks_tell.Goals as goal

pub returns : goal.returns
returns c = own_tell
