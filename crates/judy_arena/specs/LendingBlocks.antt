-- What an arena becomes after it lent a block and the borrower wrote to it.
use Rattle.std.specs.Prelude.{ℕ, List, ◌++◌, length, take, drop}
use Rattle.std.specs.Borrow.{Lends, MutBor, Fml, Array, u64 as word}
use Rattle.judy_arena.specs.Blocks.{ArenaState, words_of, put}
use Rattle.judy_arena.specs.contracts.blocks.Arena.{the_row}

-- a block's words after they are overwritten; it keeps its size
abbrev pub written_over : List ℕ → List ℕ → List ℕ
written_over old words = take (length old) (words ++ drop (length words) old)

-- at the end the arena has in this block the words that the borrower left
abbrev pub LendsBlock : MutBor ArenaState → ℕ → MutBor (List ℕ) → Fml
LendsBlock arena n result =
    Lends the_row (Array word 0) arena result (λ words. record arena.now { blocks = put arena.now.blocks n (written_over (words_of arena.now.blocks n) words) })
