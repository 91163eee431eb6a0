use Rattle.std.proofs.Common.{◌≡◌}
use Rattle.std.specs.Prelude.{drop}
use Rattle.judy_journal.specs.Notes.{number_told}
use Rattle.judy_journal.proofs.notes.number_in.Given as goal

abbrev pub invariant-loop-byte : goal.invariant-loop-byte
invariant-loop-byte l = number_told l.number (drop l.byte-index l.digits) ≡ number_told 0 l.fn.digits
