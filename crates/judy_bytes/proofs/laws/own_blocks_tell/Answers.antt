use Rattle.judy_bytes.proofs.MapLaws.{own-blocks-tell}
use Rattle.judy_bytes.proofs.laws.own_blocks_tell.Goals as goal

pub returns : goal.returns
returns c = own-blocks-tell
