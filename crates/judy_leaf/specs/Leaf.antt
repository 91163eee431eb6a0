-- What a reference to a leaf leads to, in the blocks of an arena.
--     IsLeaf v b w          the reference w is empty or leads to a sound leaf; it has values if v
--     leaf_entries v b w    its keys with their values
--     leaf_numbers b w      the numbers of its blocks
use Rattle.std.specs.Prelude.{◌≡◌, ℕ, Bool, List, [], ◌∷◌, ◌≤◌, IsFalse, length, Option, Some, None}
use Rattle.judy_arena.specs.Room.{room}
use Rattle.judy_arena.specs.Blocks.{Blocks, words_of}
use Rattle.judy_refs.specs.References.{kind_of, block_of, number_of}
use Rattle.judy_refs.specs.declared.Kind.{Kind}
use Rattle.judy_refs.specs.declared.Kind.TheVariants.{LinearLeaf, BitmapLeaf, FullLeaf}
use Rattle.judy_model.specs.Contents.{Entries}
use Rattle.judy_leaf.specs.Entries.{share_bytes}
use Rattle.judy_leaf.specs.Linear.{IsLinear, linear_entries, linear_size, leaf_count}
use Rattle.judy_leaf.specs.Bytes.{IsBits, IsBitmap, bitmap_entries, bitmap_size, IsFull}

-- the words of the block that a reference names
abbrev pub leaf_words : Blocks → ℕ → List ℕ
leaf_words b w = words_of b (number_of w)

-- the entries of these words, by the kind of the reference
abbrev pub entries_by : Bool → Option Kind → List ℕ → Entries ℕ
entries_by v (Some LinearLeaf) ws = linear_entries v ws
entries_by v (Some BitmapLeaf) ws = bitmap_entries v ws
entries_by v (Some FullLeaf) ws = bitmap_entries v ws
entries_by v _ ws = []

-- the entries of the leaf; the empty reference has none
unfoldable pub leaf_entries : Bool → Blocks → ℕ → Entries ℕ
leaf_entries v b w = entries_by v (kind_of w) (leaf_words b w)

-- the number of a block as a list, empty if there is no block
abbrev pub one_number : Option ℕ → List ℕ
one_number (Some n) = n ∷ []
one_number None = []

-- the numbers of the blocks of the leaf: one, or none
unfoldable pub leaf_numbers : Blocks → ℕ → List ℕ
leaf_numbers b w = one_number (block_of w)

-- the words of the block of a number, 0 if there is none
abbrev pub size_by : Blocks → Option ℕ → ℕ
size_by b None = 0
size_by b (Some n) = length (words_of b n)

-- the words of the block of the leaf, 0 if it is empty
abbrev pub leaf_size : Blocks → ℕ → ℕ
leaf_size b w = size_by b (block_of w)

-- the block has exactly the size for this many words
abbrev pub IsSized : ℕ → List ℕ → Type 0
IsSized used ws = length ws ≡ room used

-- the block holds a sound linear leaf, and has the size for the words that it uses
abbrev pub IsLinearLeaf : Bool → List ℕ → Type 0
IsLinearLeaf v ws = IsLinear v ws × IsSized (linear_size v (leaf_count ws)) ws

-- the block holds a leaf of at least 8 bits, and has the size for the words that it uses
abbrev pub IsBitsLeaf : Bool → List ℕ → Type 0
IsBitsLeaf v ws = IsBits v ws × (8 ≤ leaf_count ws) × IsSized (bitmap_size v (leaf_count ws)) ws

-- whether words are sound, by the kind; only the empty reference has no kind
abbrev pub IsSoundBy : Bool → Option Kind → ℕ → List ℕ → Type 0
IsSoundBy v None w ws = w ≡ 0
IsSoundBy v (Some LinearLeaf) w ws = IsLinearLeaf v ws
IsSoundBy v (Some BitmapLeaf) w ws = IsBitmap v ws × IsSized (bitmap_size v (leaf_count ws)) ws
IsSoundBy v (Some FullLeaf) w ws = IsFull v ws × IsSized (bitmap_size v (leaf_count ws)) ws
IsSoundBy v (Some _) w ws = ⊥

-- the reference is empty, or leads to a sound leaf
unfoldable pub IsLeaf : Bool → Blocks → ℕ → Type 0
IsLeaf v b w = IsSoundBy v (kind_of w) w (leaf_words b w)

-- a leaf of this kind with these entries cannot take the key: not all keys share bytes 0 to 6 with
-- it, and the leaf has no room
-- for one more whole key
abbrev pub CannotTake : Option Kind → Entries ℕ → ℕ → Type 0
CannotTake kind l key = IsFalse (share_bytes l key) × (kind ≡ Some LinearLeaf → length l ≡ 31)
