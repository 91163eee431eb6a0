use Rattle.judy_model.proofs.ArrayListLaws.{arrays_are_listed}
use Rattle.judy_model.proofs.laws.arrays_are_listed.Goals as goal

pub returns : goal.returns
returns c = arrays_are_listed
