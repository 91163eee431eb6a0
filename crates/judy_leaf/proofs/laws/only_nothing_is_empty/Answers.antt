use Rattle.judy_leaf.proofs.lemmas.OwnBlock.{only_nothing}
use Rattle.judy_leaf.proofs.laws.only_nothing_is_empty.Goals as goal

pub returns : goal.returns
returns c = only_nothing
