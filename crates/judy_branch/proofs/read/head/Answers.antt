use Rattle.std.proofs.Common.{ap, get_or, ◌/◌}
use Rattle.judy_branch.specs.Branch.{branch_view}
use Rattle.judy_branch.proofs.read.head.Goals as goal

pub returns-clause-level : goal.returns-clause-level
unfolding branch_view
returns-clause-level c = ap (λ l. get_or l 0 0 / 512) c.look-words.ensures.words

pub returns-clause-prefix : goal.returns-clause-prefix
unfolding branch_view
returns-clause-prefix c = ap (λ l. get_or l 1 0) c.look-words.ensures.words

pub returns-clause-population : goal.returns-clause-population
unfolding branch_view
returns-clause-population c = ap (λ l. get_or l 2 0) c.look-words.ensures.words
