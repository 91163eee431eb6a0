use Rattle.std.proofs.Common.{◌≡◌}
use Rattle.judy_disk.specs.Growth.{place_of}
use Rattle.judy_programs.proofs.ahead.fill.Given as goal

abbrev pub invariant-loop : goal.invariant-loop
invariant-loop g l = place_of l.current ≡ place_of l.fn.current
