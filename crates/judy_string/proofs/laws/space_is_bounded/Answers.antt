use Rattle.judy_string.proofs.MapLaws.{space-is-bounded}
use Rattle.judy_string.proofs.laws.space_is_bounded.Goals as goal

pub returns : goal.returns
returns c = space-is-bounded
