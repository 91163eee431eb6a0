use Rattle.std.proofs.Common.{◌≡◌, ◌++◌}
use Rattle.std.specs.Prelude.{take}
use Rattle.judy_disk.specs.Scans.{old_snapshots}
use Rattle.judy_disk.proofs.scan.leave_snapshots.Given as goal

abbrev pub invariant-loop-number : goal.invariant-loop-number
invariant-loop-number l = l.old.items ≡ l.fn.old.items ++ old_snapshots l.newest (take l.number-index l.snapshots)
