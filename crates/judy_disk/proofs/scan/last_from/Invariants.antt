use Rattle.std.specs.Prelude.{take}
use Rattle.judy_disk.specs.Scans.{IsRun}
use Rattle.judy_disk.proofs.scan.last_from.Given as goal

abbrev pub invariant-loop-number : goal.invariant-loop-number
invariant-loop-number l = IsRun (take l.number-index l.segments) l.first l.last
