use Rattle.judy_leaf.proofs.lemmas.Known.{are_known}
use Rattle.judy_leaf.proofs.laws.leaves_are_known.Goals as goal

pub returns : goal.returns
returns c = are_known
