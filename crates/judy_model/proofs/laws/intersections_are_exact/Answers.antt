use Rattle.judy_model.proofs.IntersectionLaws.{intersections_are_exact}
use Rattle.judy_model.proofs.laws.intersections_are_exact.Goals as goal

pub returns : goal.returns
returns c = intersections_are_exact
