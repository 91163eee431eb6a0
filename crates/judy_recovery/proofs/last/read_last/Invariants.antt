use Rattle.std.proofs.Common.{ℕ, List, ◌++◌}
use Rattle.std.specs.Io.KnownBytes.{Consumes}
use Rattle.judy_journal.specs.Noting.{HasSeen}
use Rattle.judy_recovery.proofs.last.read_last.Given as goal
use Rattle.judy_recovery.specs.Played.{ReadsUpTo}

abbrev pub invariant-loop : goal.invariant-loop
invariant-loop g l = (bytes : List ℕ) × Consumes (g.R.Source.source.left l.fn.file) (g.R.Source.source.left l.file) bytes
    × ((segment : ℕ) (text : List ℕ) → HasSeen segment text l.fn.notes → HasSeen segment (text ++ bytes) l.notes)
    × ReadsUpTo g.P.Player.plays l.found l.fn.recovery bytes l.fn.player l.recovery l.player
