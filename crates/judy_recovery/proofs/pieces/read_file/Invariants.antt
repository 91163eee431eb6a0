use Rattle.std.proofs.Common.{ℕ, List}
use Rattle.std.specs.Io.KnownBytes.{Consumes}
use Rattle.judy_recovery.proofs.pieces.read_file.Given as goal
use Rattle.judy_recovery.specs.Played.{ReadsOn}

abbrev pub invariant-loop : goal.invariant-loop
invariant-loop g l = (bytes : List ℕ) × Consumes (g.R.Source.source.left l.fn.file) (g.R.Source.source.left l.file) bytes
    × ReadsOn g.P.Player.plays l.fn.recovery bytes l.fn.player l.recovery l.player
