use Rattle.std.proofs.Common.{take}
use Rattle.judy_directory.specs.Order.{is_on, IsLeast}
use Rattle.judy_directory.specs.Rooms.{look_up}
use Rattle.judy_directory.proofs.kept.next_kept.Given as goal

-- the answer so far is that of the entries so far
abbrev pub invariant-loop-entry : goal.invariant-loop-entry
invariant-loop-entry l = IsLeast (is_on l.itself l.start) (λ q. look_up q (take l.entry-index l.kept)) l.least
