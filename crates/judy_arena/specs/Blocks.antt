-- Blocks as a finite map from numbers to lists of words, and what callers see of an arena.
use Rattle.std.specs.Prelude.{◌≡◌, ℕ, ◌+◌, ◌^◌, ◌-◌, ◌<◌, ◌≤◌, Bool, IsTrue, is_some, List, [], map, refl, min, sum, Option, length, replicate}
use Rattle.std.specs.Option.{unwrap_or}
use Rattle.std.specs.Ordering.{nat_cmp}
use Rattle.std.specs.FinMap.{FinMap, get, insert, remove, empty, values, code}
use Rattle.std.specs.Coded.{Coded, code_by, coded×, coded_ℕ, coded_list}

-- the live blocks: the words of each, by its number
abbrev pub Blocks : Type 0
Blocks = FinMap nat_cmp (List ℕ)

-- no block is live
abbrev pub no_blocks : Blocks
no_blocks = empty

-- the block of this number, if it is live
unfoldable pub block : Blocks → ℕ → Option (List ℕ)
block b n = get b n

-- whether the block of this number is live
abbrev pub is_live : Blocks → ℕ → Bool
is_live b n = is_some (block b n)

-- the words of the block of this number; a number that is not live has none
abbrev pub words_of : Blocks → ℕ → List ℕ
words_of b n = unwrap_or (block b n) []

-- the blocks after the block of this number got these words, whether or not it was live
unfoldable pub put : Blocks → ℕ → List ℕ → Blocks
put b n ws = insert b n ws

-- the blocks without the block of this number
unfoldable pub without : Blocks → ℕ → Blocks
without b n = remove b n

-- the sum of the sizes of the live blocks, in words
unfoldable pub total_words : Blocks → ℕ
total_words b = sum (map length (values b))

-- each live block has words, and at most 512 of them
abbrev pub AreSized : Blocks → Type 0
AreSized b = (q : ℕ) → IsTrue (is_live b q) → (0 < length (words_of b q)) × (length (words_of b q) ≤ 512)

-- this many words, all 0
unfoldable pub zeros : ℕ → List ℕ
zeros n = replicate n 0

-- what callers see of an arena: its live blocks, how many requests for a block it refused, the
-- greatest size of a free block, how many words it took from the machine, how many words are live,
-- how many are in free blocks, the greatest number of words that were live at once, and how many
-- words it had taken from the machine when it last took some beforehand
pub record ArenaState : Type 0 where
  pub blocks : Blocks
  pub refusals : ℕ
  pub ready : ℕ
  pub region : ℕ
  pub live : ℕ
  pub free : ℕ
  pub peak : ℕ
  pub reserved : ℕ

-- a state is written down as its eight parts
abbrev pub state_code : Coded ArenaState
state_code =
    code_by (Blocks × (ℕ × (ℕ × (ℕ × (ℕ × (ℕ × (ℕ × ℕ)))))))
    (coded× (code coded_ℕ (coded_list coded_ℕ))
    (coded× coded_ℕ (coded× coded_ℕ (coded× coded_ℕ (coded× coded_ℕ (coded× coded_ℕ (coded× coded_ℕ coded_ℕ)))))))
    (λ s. (s.blocks, (s.refusals, (s.ready, (s.region, (s.live, (s.free, (s.peak, s.reserved))))))))
    (λ p. record {
      blocks = p.0;
      refusals = p.1.0;
      ready = p.1.1.0;
      region = p.1.1.1.0;
      live = p.1.1.1.1.0;
      free = p.1.1.1.1.1.0;
      peak = p.1.1.1.1.1.1.0;
      reserved = p.1.1.1.1.1.1.1;
    })
    (λ _. refl)

-- one more, saturating at the greatest word
abbrev pub count_up : ℕ → ℕ
count_up n = min (n + 1) (2 ^ 64 - 1)

-- how the sum of the sizes changes. With no block it is 0. Putting a block, whether or not it was
-- live, and removing a block change the sum by the words of that block alone. If each live block
-- has words, the sum is 0 only with no block
pub record SizesAddUp : Type 0 where
  pub none : total_words no_blocks ≡ 0
  pub written : (b : Blocks) (n : ℕ) (ws : List ℕ) → total_words (put b n ws) + length (words_of b n) ≡ total_words b + length ws
  pub released : (b : Blocks) (n : ℕ) → total_words (without b n) + length (words_of b n) ≡ total_words b
  pub zero_only : (b : Blocks) → AreSized b → total_words b ≡ 0 → b ≡ no_blocks
