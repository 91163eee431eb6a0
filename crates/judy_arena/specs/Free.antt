-- The free blocks, as their lists lead to them. The head of a list, and the first word of each block
-- in it, is the number of the next block plus 1, or 0 at the end of the list.
--     followed words link most    the blocks from this head or link on, at most that number of them
--     free_words words heads      how many words all free blocks have together
use Rattle.std.specs.Prelude.{ℕ, zero, suc, ◌+◌, ◌*◌, List, [], ◌∷◌, length, get_or}

-- the numbers of the blocks from this head or link on, at most that number of them
abbrev pub followed : List ℕ → ℕ → ℕ → List ℕ
followed words zero most = []
followed words (suc n) zero = []
followed words (suc n) (suc most) = n ∷ followed words (get_or words (n * 4) 0) most

-- the words of the blocks in the lists with these heads. The blocks of the first list have this size,
-- those of each further list twice the size of the list before it
abbrev pub free_from : List ℕ → ℕ → List ℕ → ℕ
free_from words size [] = 0
free_from words size (head ∷ heads) = size * length (followed words head (length words)) + free_from words (2 * size) heads

-- the words of all free blocks: those of 4 words, of 8, .. of 512
unfoldable pub free_words : List ℕ → List ℕ → ℕ
free_words words heads = free_from words 4 heads
