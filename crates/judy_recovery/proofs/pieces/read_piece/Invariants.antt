use Rattle.std.proofs.Common.{◌≡◌, ◌++◌, ℕ, List, length}
use Rattle.judy_recovery.proofs.pieces.read_piece.Given as goal
use Rattle.judy_recovery.specs.Played.{ReadsOn}

abbrev pub invariant-loop-rest : goal.invariant-loop-rest
invariant-loop-rest g l = (used : List ℕ) × (used ++ l.rest ≡ l.fn.bytes)
    × ReadsOn g.P.Player.plays l.fn.recovery used l.fn.player l.recovery l.player

abbrev pub decreases-loop-rest : goal.decreases-loop-rest
decreases-loop-rest g l = length l.rest
