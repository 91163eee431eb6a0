-- What a region becomes after it lent a part and the borrower wrote to it.
use Rattle.std.specs.Prelude.{ℕ, List}
use Rattle.std.specs.Borrow.{Lends, MutBor, Fml, Array, u64 as word}
use Rattle.judy_region.specs.Parts.{with_part}
use Rattle.judy_region.specs.contracts.Region.{the_row}

-- at the end the region has in this part the words that the borrower left
abbrev pub LendsWords : MutBor (List ℕ) → ℕ → ℕ → MutBor (List ℕ) → Fml
LendsWords region place len result = Lends the_row (Array word 0) region result (with_part region.now place len)
