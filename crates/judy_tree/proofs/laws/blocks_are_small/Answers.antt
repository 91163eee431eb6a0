use Rattle.judy_tree.proofs.lemmas.RootLaws.{blocks-are-small}
use Rattle.judy_tree.proofs.laws.blocks_are_small.Goals as goal

pub returns : goal.returns
returns c = blocks-are-small
