use Rattle.std.proofs.Common.{length}
use Rattle.judy_upkeep.proofs.beginning.lines_in.Given as goal

abbrev pub invariant-loop-after : goal.invariant-loop-after
invariant-loop-after l = Unit {0}

abbrev pub decreases-loop-after : goal.decreases-loop-after
decreases-loop-after l = length l.rest
