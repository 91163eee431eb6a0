-- What the memory of a chunk becomes after it lent a part and the borrower wrote to it.
use Rattle.std.specs.Prelude.{ℕ, List}
use Rattle.std.specs.Borrow.{Lends, MutBor, Fml, Array, u64 as word}
use Rattle.judy_region.specs.Parts.{with_part, length-with_part}
use Rattle.judy_region.specs.declared.words.Words.{Words}
use Rattle.judy_region.specs.contracts.words.Words.{the_row}

-- the same memory with these words in a part of it
abbrev pub words_with : Words → ℕ → ℕ → List ℕ → Words
words_with w start len ws = record w { words = with_part w.words start len ws; sized = length-with_part w.len w.words start len ws w.sized }

-- at the end the memory has in this part the words that the borrower left
abbrev pub LendsRun : MutBor Words → ℕ → ℕ → MutBor (List ℕ) → Fml
LendsRun w start len result = Lends the_row (Array word 0) w result (words_with w.now start len)
