use Rattle.std.proofs.Common.{ap, get_or}
use Rattle.judy_branch.specs.Branch.{branch_view}
use Rattle.judy_branch.proofs.read.population.Goals as goal

pub returns : goal.returns
unfolding branch_view
returns c = ap (λ l. get_or l 2 0) c.look.ensures.words
