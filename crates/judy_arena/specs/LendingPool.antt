-- What a pool becomes after it lent a block and the borrower wrote to it.
use Rattle.std.specs.Prelude.{ℕ, List, length}
use Rattle.std.specs.List.{refill}
use Rattle.std.specs.Borrow.{Lends, MutBor, Fml, Array, u64 as word}
use Rattle.judy_arena.specs.Blocks.{words_of, put}
use Rattle.judy_arena.specs.Layout.{Pooled}
use Rattle.judy_arena.specs.contracts.pool.Pool.{the_row}

-- at the end the pool has in this block the words that the borrower left
abbrev pub LendsPoolRun : MutBor Pooled → ℕ → MutBor (List ℕ) → Fml
LendsPoolRun pool n result =
    Lends the_row (Array word 0) pool result
    (λ ws. record pool.now { blocks = put pool.now.blocks n (refill (length (words_of pool.now.blocks n)) (words_of pool.now.blocks n) ws) })
