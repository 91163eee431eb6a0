-- The size that is ready, read off the heads of the eight lists of free blocks: of those of 4 words,
-- of 8, .. of 512. A head is 0 where no block of its size is free. A function over the list gets in
-- `first` the size of the first list; it doubles with each.
use Rattle.std.specs.Prelude.{ℕ, ◌*◌, cond, nat_lt, max, List, [], ◌∷◌}

abbrev pub greatest_from : ℕ → List ℕ → ℕ
greatest_from first [] = 0
greatest_from first (head ∷ heads) = max (cond (nat_lt 0 head) first 0) (greatest_from (2 * first) heads)

-- the greatest size of a free block, 0 with none
unfoldable pub greatest : List ℕ → ℕ
greatest heads = greatest_from 4 heads
