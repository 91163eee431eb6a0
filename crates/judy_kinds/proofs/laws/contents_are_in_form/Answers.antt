use Rattle.judy_kinds.proofs.Formed.{contents-are-in-form}
use Rattle.judy_kinds.proofs.laws.contents_are_in_form.Goals as goal

pub returns : goal.returns
returns c = contents-are-in-form c.content_is_sound.ensures c.content_is_sound-2.ensures c.content_is_sound-3.ensures
