use Rattle.judy_tenants.proofs.Grown.{calls-add-one}
use Rattle.judy_tenants.proofs.laws.calls_add_one.Goals as goal

pub returns : goal.returns
returns c = calls-add-one c.content_is_sound.ensures c.content_is_sound-2.ensures c.content_is_sound-3.ensures
