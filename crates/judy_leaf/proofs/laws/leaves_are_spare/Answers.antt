use Rattle.judy_leaf.proofs.lemmas.OwnBlock.{are_spare}
use Rattle.judy_leaf.proofs.laws.leaves_are_spare.Goals as goal

pub returns : goal.returns
returns c = are_spare
