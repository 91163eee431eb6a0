use Rattle.judy_tree.proofs.lemmas.RootLaws.{nothing-changes}
use Rattle.judy_tree.proofs.laws.nothing_changes.Goals as goal

pub returns : goal.returns
returns c = nothing-changes
