use Rattle.std.proofs.Common.{◌≡◌, ℕ, List, ◌++◌, length}
use Rattle.judy_journal.specs.Noting.{HasSeen}
use Rattle.judy_journal.proofs.notes.Notes.read.Given as goal

abbrev pub invariant-loop-chunk : goal.invariant-loop-chunk
invariant-loop-chunk l = (used : List ℕ) × (used ++ l.rest ≡ l.bytes)
    × ((segment : ℕ) (text : List ℕ) → HasSeen segment text l.fn.self → HasSeen segment (text ++ used) l.self)

abbrev pub decreases-loop-chunk : goal.decreases-loop-chunk
decreases-loop-chunk l = length l.rest
