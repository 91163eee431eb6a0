-- How blocks lie in a list of words. There is one mark for every four words: 0 if no block starts
-- there, k + 1 for a live block of class k, k + 9 for a free one.
use Rattle.std.specs.Prelude.{ℕ, suc, ◌≡◌, ◌≢◌, ◌⊎◌, ◌+◌, ◌-◌, ◌*◌, ◌/◌, ◌%◌, ◌^◌, ◌<◌, ◌≤◌, ◌&&◌, Bool, cond, nat_lt, List, [], ◌∷◌, length, get_or, set, take, drop, Option, Some, None, refl}
use Rattle.std.specs.FinMap.{from_entries, code}
use Rattle.std.specs.Coded.{Coded, code_by, coded×, coded_ℕ, coded_list}
use Rattle.judy_arena.specs.Blocks.{Blocks}

-- whether it is the mark of a live block
abbrev pub marks_live : ℕ → Bool
marks_live m = nat_lt 0 m && nat_lt m 9

-- how many groups of four words a block with this mark has
unfoldable pub span : ℕ → ℕ
span m = 2 ^ ((m - 1) % 8)

-- how many words a block of this class has
abbrev pub size_of : ℕ → ℕ
size_of k = span (k + 1) * 4

-- the words of the block of this number, if it is live
abbrev pub block_at : List ℕ → List ℕ → ℕ → Option (List ℕ)
block_at marks words n = cond (marks_live (get_or marks n 0)) (Some (take (span (get_or marks n 0) * 4) (drop (n * 4) words))) None

-- the live blocks of the marks; the first mark has this number
abbrev pub listed : ℕ → List ℕ → List ℕ → List (ℕ × List ℕ)
listed n [] words = []
listed n (m ∷ ms) words = cond (marks_live m) ((n, take (span m * 4) (drop (n * 4) words)) ∷ listed (suc n) ms words) (listed (suc n) ms words)

-- the live blocks
unfoldable pub blocks_of : List ℕ → List ℕ → Blocks
blocks_of marks words = from_entries (listed 0 marks words)

-- whether the number is in the list
abbrev pub IsIn : ℕ → List ℕ → Type 0
IsIn q [] = ⊥
IsIn q (p ∷ ps) = (q ≡ p) ⊎ IsIn q ps

-- the free blocks of class k, from the head or link h on: their numbers. The first word of each is
-- the number of the next one plus 1. The second is b, the number of the one before it plus 1; of the
-- first in the list, where b is 0, it may be anything
abbrev pub IsChain : List ℕ → List ℕ → ℕ → ℕ → ℕ → List ℕ → Type 0
IsChain marks words k b h [] = h ≡ 0
IsChain marks words k b h (p ∷ ps) = (h ≡ suc p) × (p < length marks) × (get_or marks p 0 ≡ k + 9) × (IsIn p ps → ⊥)
    × (0 < b → get_or words (p * 4 + 1) 0 ≡ b) × IsChain marks words k (suc p) (get_or words (p * 4) 0) ps

-- the words after the block n got the link h to the next block of its list, and that one the link
-- back to n
unfoldable pub linked : List ℕ → ℕ → ℕ → List ℕ
linked words n h = cond (nat_lt 0 h) (set (set words (n * 4) h) ((h - 1) * 4 + 1) (n + 1)) (set words (n * 4) h)

-- the words, their marks and the heads of the free lists fit together
pub record IsLaidOut (marks words heads : List ℕ) : Type 0 where
  -- a mark for every four words
  pub sized : length words ≡ length marks * 4
  -- each mark is one of these
  pub known : (n : ℕ) → get_or marks n 0 ≤ 16
  -- no block reaches past the end
  pub inside : (n : ℕ) → get_or marks n 0 ≢ 0 → n + span (get_or marks n 0) ≤ length marks
  -- each block lies at a multiple of its size
  pub aligned : (n : ℕ) → get_or marks n 0 ≢ 0 → n % span (get_or marks n 0) ≡ 0
  -- no block starts inside another
  pub apart : (n j : ℕ) → get_or marks n 0 ≢ 0 → n < j → j < n + span (get_or marks n 0) → get_or marks j 0 ≡ 0
  -- each place lies in a block
  pub covered : (q : ℕ) → q < length marks → (m : ℕ) × (get_or marks m 0 ≢ 0) × (m ≤ q) × (q < m + span (get_or marks m 0))
  -- of two buddies of a class below the last one at most one is free
  pub lone : (n k : ℕ) → k < 7 → n % span (k + 2) ≡ 0 → get_or marks n 0 ≡ k + 9 → get_or marks (n + span (k + 1)) 0 ≢ k + 9
  -- the head of each class leads to all free blocks of that class
  pub free : (k : ℕ) → k < 8 → (ps : List ℕ) × IsChain marks words k 0 (get_or heads k 0) ps × ((q : ℕ) → get_or marks q 0 ≡ k + 9 → IsIn q ps)

-- two blocks of class k are the halves of a block of the next class
abbrev pub AreBuddies : ℕ → ℕ → ℕ → Type 0
AreBuddies k n b = ((n % span (k + 2) ≡ 0) × (b ≡ n + span (k + 1))) ⊎ ((b % span (k + 2) ≡ 0) × (n ≡ b + span (k + 1)))

-- the buddy of the block n of class k is no free block of this class, or the class is the last one
pub record IsAlone (marks : List ℕ) (n k : ℕ) : Type 0 where
  pub upper : k < 7 → n % span (k + 2) ≡ 0 → get_or marks (n + span (k + 1)) 0 ≢ k + 9
  pub lower : k < 7 → (a : ℕ) → a % span (k + 2) ≡ 0 → a + span (k + 1) ≡ n → get_or marks a 0 ≢ k + 9

-- all that is known of the fields of a pool, but for the room that the marks have
abbrev pub IsSound : List ℕ → List ℕ → List ℕ → Type 0
IsSound marks words heads = IsLaidOut marks words heads × (length heads ≡ 8) × (length marks ≤ 4294967296) × (length marks % 128 ≡ 0)

-- what the arena sees of its pool: the live blocks, the heads of the lists of free blocks, the words
-- taken from the machine, and the words of the free blocks
pub record Pooled : Type 0 where
  pub blocks : Blocks
  pub heads : List ℕ
  pub region : ℕ
  pub free : ℕ

-- a pool is written down as its four parts
abbrev pub pool_code : Coded Pooled
pool_code =
    code_by (Blocks × (List ℕ × (ℕ × ℕ))) (coded× (code coded_ℕ (coded_list coded_ℕ)) (coded× (coded_list coded_ℕ) (coded× coded_ℕ coded_ℕ)))
    (λ p. (p.blocks, (p.heads, (p.region, p.free)))) (λ p. record { blocks = p.0; heads = p.1.0; region = p.1.1.0; free = p.1.1.1 }) (λ _. refl)

-- the marks have room for whole chunks, and for at most one chunk more
abbrev pub HasMarkRoom : ℕ → ℕ → Type 0
HasMarkRoom len capacity = ((len + 16383) / 16384 * 16384 ≤ capacity) × (capacity ≤ (len + 16383) / 16384 * 16384 + 16384)
