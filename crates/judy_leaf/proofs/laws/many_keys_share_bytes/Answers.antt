use Rattle.judy_leaf.proofs.lemmas.OwnBlock.{many_share}
use Rattle.judy_leaf.proofs.laws.many_keys_share_bytes.Goals as goal

pub returns : goal.returns
returns c = many_share
