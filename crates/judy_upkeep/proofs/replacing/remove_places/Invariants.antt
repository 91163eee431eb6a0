use Rattle.std.proofs.Common.{Ok}
use Rattle.judy_disk.specs.declared.faults.DiskFault.{DiskFault}
use Rattle.judy_upkeep.specs.Replacing.{HasRemoved}
use Rattle.judy_upkeep.proofs.replacing.remove_places.Given as goal

abbrev pub invariant-loop-place : goal.invariant-loop-place
invariant-loop-place g l = HasRemoved {T = Unit {0}} {E = DiskFault} (Ok tt) l.fn.upto (g.D.Replaces.log l.fn.directory) (g.D.Replaces.log l.directory)
