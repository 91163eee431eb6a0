use Rattle.judy_bytes.proofs.Space.{space-is-bounded}
use Rattle.judy_bytes.proofs.laws.space_is_bounded.Goals as goal

pub returns : goal.returns
returns c = space-is-bounded
