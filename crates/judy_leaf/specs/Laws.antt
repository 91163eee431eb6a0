-- Laws of what a reference to a leaf leads to, for every kind of leaf.
use Rattle.std.specs.Prelude.{◌≡◌, ℕ, ◌*◌, ◌<◌, ◌≤◌, Bool, true, false, ◌==◌, nat_lt, get_or, List, [], length, IsTrue}
use Rattle.std.specs.List.{list_all}
use Rattle.judy_arena.specs.Blocks.{Blocks, block, is_live, words_of}
use Rattle.judy_arena.specs.Totals.{are_distinct, words_over}
use Rattle.judy_arena.specs.Frame.{holds, Frame, AreApart}
use Rattle.judy_refs.specs.References.{kind_part, is_reference}
use Rattle.judy_model.specs.Contents.{Entries, IsWordArray, HasWordValues}
use Rattle.judy_leaf.specs.Entries.{share_bytes}
use Rattle.judy_leaf.specs.Leaf.{IsLeaf, leaf_entries, leaf_numbers}

-- the leaf at w is sound in both, has the same entries in both, and lies in the same blocks
abbrev pub IsSameLeaf : Bool → Blocks → Blocks → ℕ → Type 0
IsSameLeaf v here there w =
    IsLeaf v there w × (leaf_entries v there w ≡ leaf_entries v here w) × (leaf_numbers there w ≡ leaf_numbers here w)

-- A leaf stays the same over a change that lists none of its block numbers, as old or as new.
abbrev pub OthersStay : Type 0
OthersStay =
    (v : Bool) (before after : Blocks) (old new : List ℕ) (w : ℕ)
    → Frame before after old new → IsLeaf v before w → AreApart (leaf_numbers before w) old
    → IsSameLeaf v before after w × AreApart (leaf_numbers before w) new

-- The block of a leaf alone determines its entries.
abbrev pub OwnBlocksTell : Type 0
OwnBlocksTell =
    (v : Bool) (here there : Blocks) (w : ℕ)
    → ((q : ℕ) → holds q (leaf_numbers here w) ≡ true → block there q ≡ block here q) → IsLeaf v here w → IsSameLeaf v here there w

-- A leaf has at most one block. The block is live, and its number is below 2^32.
pub record BlockIsLive (v : Bool) (b : Blocks) (w : ℕ) : Type 0 where
  pub live : (q : ℕ) → holds q (leaf_numbers b w) ≡ true → IsTrue (is_live b q) × (q < 4294967296)
  pub distinct : IsTrue (are_distinct (leaf_numbers b w))
  pub one : length (leaf_numbers b w) ≤ 1

abbrev pub BlocksAreLive : Type 0
BlocksAreLive = (v : Bool) (b : Blocks) (w : ℕ) → IsLeaf v b w → BlockIsLive v b w

-- The keys are words that rise strictly. The values are words, all 0 in a set.
pub record ContentIsSoundIn (v : Bool) (l : Entries ℕ) : Type 0 where
  pub keys : IsWordArray l
  pub values : HasWordValues l
  pub set : v ≡ false → IsTrue (list_all (λ e. e.1 == 0) l)

abbrev pub ContentIsSound : Type 0
ContentIsSound = (v : Bool) (b : Blocks) (w : ℕ) → IsLeaf v b w → ContentIsSoundIn v (leaf_entries v b w)

-- The empty reference is the empty leaf, with no block. No other leaf is empty.
pub record OnlyNothingIsEmpty : Type 0 where
  pub nothing : (v : Bool) (b : Blocks) → IsLeaf v b 0 × (leaf_entries v b 0 ≡ []) × (leaf_numbers b 0 ≡ [])
  pub only : (v : Bool) (b : Blocks) (w : ℕ) → IsLeaf v b w → leaf_entries v b w ≡ [] → w ≡ 0

-- The reference to a leaf is not the reference to a branch.
abbrev pub LeavesAreNoBranches : Type 0
LeavesAreNoBranches = (v : Bool) (b : Blocks) (w : ℕ) → IsLeaf v b w → nat_lt 3 (kind_part w) ≡ false

-- If there are more than 31 keys, they share bytes 0 to 6.
abbrev pub ManyKeysShareBytes : Type 0
ManyKeysShareBytes =
    (v : Bool) (b : Blocks) (w : ℕ) → IsLeaf v b w → 31 < length (leaf_entries v b w)
    → IsTrue (share_bytes (leaf_entries v b w) (get_or (leaf_entries v b w) 0 (0, 0)).0)

-- How many entries a leaf may have for its blocks, and how many words its blocks may have for its
-- entries.
pub record LeafIsSpare (v : Bool) (b : Blocks) (w : ℕ) : Type 0 where
  pub entries : length (leaf_entries v b w) ≤ 256 * length (leaf_numbers b w)
  pub words : words_over b (leaf_numbers b w) ≤ 4 * length (leaf_entries v b w)

abbrev pub LeavesAreSpare : Type 0
LeavesAreSpare = (v : Bool) (b : Blocks) (w : ℕ) → IsLeaf v b w → LeafIsSpare v b w

-- The word of a leaf is a reference, and each of its blocks has at least 4 words.
pub record LeafIsKnown (v : Bool) (b : Blocks) (w : ℕ) : Type 0 where
  pub reference : IsTrue (is_reference w)
  pub words : (q : ℕ) → holds q (leaf_numbers b w) ≡ true → 4 ≤ length (words_of b q)

abbrev pub LeavesAreKnown : Type 0
LeavesAreKnown = (v : Bool) (b : Blocks) (w : ℕ) → IsLeaf v b w → LeafIsKnown v b w
