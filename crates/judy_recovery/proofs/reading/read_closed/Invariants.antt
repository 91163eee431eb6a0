use Rattle.std.proofs.Common.{◌-◌}
use Rattle.judy_recovery.proofs.reading.read_closed.Given as goal
use Rattle.judy_recovery.specs.Whole.{ReadsFiles}

abbrev pub invariant-loop-number : goal.invariant-loop-number
invariant-loop-number g l = ReadsFiles g.P.Player.plays g.F.File.Read.remaining (l.number - l.fn.first) l.fn.recovery l.fn.player l.recovery l.player
