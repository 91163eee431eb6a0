use Rattle.judy_bytes.proofs.MapLaws.{content-is-sound}
use Rattle.judy_bytes.proofs.laws.content_is_sound.Goals as goal

pub returns : goal.returns
returns c = content-is-sound
