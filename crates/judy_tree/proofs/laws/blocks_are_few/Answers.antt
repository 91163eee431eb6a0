use Rattle.judy_tree.proofs.lemmas.RootLaws.{blocks-are-few}
use Rattle.judy_tree.proofs.laws.blocks_are_few.Goals as goal

pub returns : goal.returns
returns c = blocks-are-few
