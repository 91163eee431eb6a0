use Rattle.judy_leaf.proofs.lemmas.OwnBlock.{is_sound}
use Rattle.judy_leaf.proofs.laws.content_is_sound.Goals as goal

pub returns : goal.returns
returns c = is_sound
