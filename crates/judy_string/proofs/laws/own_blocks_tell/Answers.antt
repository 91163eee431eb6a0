use Rattle.judy_string.proofs.MapLaws.{own-blocks-tell}
use Rattle.judy_string.proofs.laws.own_blocks_tell.Goals as goal

pub returns : goal.returns
returns c = own-blocks-tell
