use Rattle.judy_string.proofs.MapLaws.{nothing-changes}
use Rattle.judy_string.proofs.laws.nothing_changes.Goals as goal

pub returns : goal.returns
returns c = nothing-changes
