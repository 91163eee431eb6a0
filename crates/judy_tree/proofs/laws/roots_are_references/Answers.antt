use Rattle.judy_tree.proofs.lemmas.RootLaws.{roots-are-references}
use Rattle.judy_tree.proofs.laws.roots_are_references.Goals as goal

pub returns : goal.returns
returns c = roots-are-references
