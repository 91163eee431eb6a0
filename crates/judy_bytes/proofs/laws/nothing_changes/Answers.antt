use Rattle.judy_bytes.proofs.MapLaws.{nothing-changes}
use Rattle.judy_bytes.proofs.laws.nothing_changes.Goals as goal

pub returns : goal.returns
returns c = nothing-changes
