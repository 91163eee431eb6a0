use Rattle.judy_tree.proofs.lemmas.RootLaws.{has-space}
use Rattle.judy_tree.proofs.laws.roots_have_space.Goals as goal

pub returns : goal.returns
returns c = has-space
