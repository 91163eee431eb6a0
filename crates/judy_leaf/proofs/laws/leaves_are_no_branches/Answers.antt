use Rattle.judy_leaf.proofs.lemmas.OwnBlock.{no_branches}
use Rattle.judy_leaf.proofs.laws.leaves_are_no_branches.Goals as goal

pub returns : goal.returns
returns c = no_branches
