use Rattle.std.proofs.Common.{◌≡◌, ℕ, false, List, ◌++◌, length}
use Rattle.judy_journal.specs.Journals.{Commit}
use Rattle.judy_journal.specs.Readings.{IsRead}
use Rattle.judy_journal.proofs.reader.Reader.read.Given as goal

abbrev pub invariant-loop-chunk : goal.invariant-loop-chunk
invariant-loop-chunk l = record {
  read : (used : List ℕ) × (used ++ l.rest ≡ l.bytes) × ((segment : ℕ) (first text : List ℕ) (commits : List Commit)
      → IsRead segment first text commits l.fn.self → IsRead segment first (text ++ used) commits l.self × (l.self.whole ≡ false));
}

abbrev pub decreases-loop-chunk : goal.decreases-loop-chunk
decreases-loop-chunk l = length l.rest
