use Rattle.std.proofs.Common.{◌-◌, get_or}
use Rattle.judy_branch.specs.Packed.{unpacked}
use Rattle.judy_branch.proofs.Rows.{Follows}
use Rattle.judy_branch.proofs.linear.row.Given as goal

-- the bytes from the place on to the end follow one another
abbrev pub invariant-loop-end : goal.invariant-loop-end
invariant-loop-end l = Follows (unpacked l.count (get_or l.words 3 0)) l.byte l.place (l.end - l.place)
