use Rattle.std.proofs.Common.{◌≡◌, ℕ, List, ◌++◌, length}
use Rattle.judy_programs.specs.Tables.{IsWhole}
use Rattle.judy_programs.proofs.table_end.find_end.Given as goal

abbrev pub invariant-loop-at : goal.invariant-loop-at
invariant-loop-at l = (done : List ℕ) × (l.bytes ≡ done ++ l.rest) × (l.at ≡ length done) × IsWhole done

abbrev pub decreases-loop-at : goal.decreases-loop-at
decreases-loop-at l = length l.rest
