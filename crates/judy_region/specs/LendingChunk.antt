-- What a chunk becomes after it lent a part and the borrower wrote to it.
use Rattle.std.specs.Prelude.{ℕ, List}
use Rattle.std.specs.Borrow.{Lends, MutBor, Fml, Array, u64 as word}
use Rattle.judy_region.specs.Parts.{with_part}
use Rattle.judy_region.specs.contracts.chunk.Chunk.{the_row}

-- at the end the chunk has in this part the words that the borrower left
abbrev pub LendsPart : MutBor (List ℕ) → ℕ → ℕ → MutBor (List ℕ) → Fml
LendsPart chunk start len result = Lends the_row (Array word 0) chunk result (with_part chunk.now start len)
