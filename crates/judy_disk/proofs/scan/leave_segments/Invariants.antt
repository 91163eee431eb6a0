use Rattle.std.proofs.Common.{◌≡◌, ◌++◌}
use Rattle.std.specs.Prelude.{take}
use Rattle.judy_disk.specs.Scans.{old_segments}
use Rattle.judy_disk.proofs.scan.leave_segments.Given as goal

abbrev pub invariant-loop-number : goal.invariant-loop-number
invariant-loop-number l = l.old.items ≡ l.fn.old.items ++ old_segments l.first (take l.number-index l.segments)
