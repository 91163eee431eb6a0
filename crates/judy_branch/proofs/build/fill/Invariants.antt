use Rattle.std.proofs.Common.{take}
use Rattle.judy_branch.specs.Written.{BranchBecomes}
use Rattle.judy_branch.proofs.build.fill.Given as goal

abbrev pub invariant-loop-i : goal.invariant-loop-i
invariant-loop-i l = BranchBecomes l.shape l.initial.words l.words (take l.i l.list)
