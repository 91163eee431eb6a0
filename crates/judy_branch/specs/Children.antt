-- The children in a branch's block, by its shape: each is a byte with the word of a reference, in
-- rising order of the bytes.
use Rattle.std.specs.Prelude.{◌≡◌, ℕ, suc, ◌+◌, ◌-◌, ◌*◌, ◌/◌, ◌%◌, ◌^◌, ◌<◌, ◌≤◌, Bool, cond, not, ◌&&◌, ◌==◌, IsTrue, List, [], ◌∷◌, take, drop, get_or, length, nat_lt, Option, Some, None}
use Rattle.std.specs.List.{list_all}
use Rattle.judy_model.specs.Contents.{Entries, IsRising, word_order, pairs}
use Rattle.judy_bitmap.specs.ByteSets.{members}
use Rattle.judy_arena.specs.Room.{room}
use Rattle.judy_refs.specs.References.{is_reference, kind_of}
use Rattle.judy_refs.specs.declared.Kind.{Kind}
use Rattle.judy_refs.specs.declared.Kind.TheVariants.{LinearBranch, BitmapBranch, FullBranch}
use Rattle.judy_branch.specs.declared.shape.Shape.{Shape}
use Rattle.judy_branch.specs.declared.shape.Shape.TheVariants.{Linear, Bitmap, Full}
use Rattle.judy_branch.specs.Packed.{unpacked}

-- the shape of a kind of block, if it is a branch's
abbrev pub shape_by : Option Kind → Option Shape
shape_by (Some LinearBranch) = Some Linear
shape_by (Some BitmapBranch) = Some Bitmap
shape_by (Some FullBranch) = Some Full
shape_by _ = None

-- the shape of a reference, if it refers to a branch
unfoldable pub shape_of : ℕ → Option Shape
shape_of w = shape_by (kind_of w)

-- the kind of a branch's block
abbrev pub kind_for : Shape → Kind
kind_for Linear = LinearBranch
kind_for Bitmap = BitmapBranch
kind_for Full = FullBranch

-- the parts of the first word, and the two words after it
abbrev pub count_in : List ℕ → ℕ
count_in ws = get_or ws 0 0 % 512

abbrev pub level_in : List ℕ → ℕ
level_in ws = get_or ws 0 0 / 512

abbrev pub prefix_in : List ℕ → ℕ
prefix_in ws = get_or ws 1 0

abbrev pub population_in : List ℕ → ℕ
population_in ws = get_or ws 2 0

-- the words other than 0, each with its number; the first word has this number
abbrev pub numbered : ℕ → List ℕ → Entries ℕ
numbered k [] = []
numbered k (w ∷ ws) = cond (w == 0) (numbered (suc k) ws) ((k, w) ∷ numbered (suc k) ws)

-- the four words of the bitmap
abbrev pub bitmap_in : List ℕ → List ℕ
bitmap_in ws = get_or ws 3 0 ∷ get_or ws 4 0 ∷ get_or ws 5 0 ∷ get_or ws 6 0 ∷ []

-- the bytes of a linear and of a bitmap branch, and the references of both
unfoldable pub child_bytes : Shape → List ℕ → List ℕ
child_bytes Linear ws = unpacked (count_in ws) (get_or ws 3 0)
child_bytes Bitmap ws = members (bitmap_in ws)
child_bytes Full ws = []

-- the place of the first reference
abbrev pub start : Shape → ℕ
start Linear = 4
start Bitmap = 7
start Full = 3

unfoldable pub refs_in : Shape → List ℕ → List ℕ
refs_in shape ws = take (count_in ws) (drop (start shape) ws)

-- the children
unfoldable pub children_in : Shape → List ℕ → Entries ℕ
children_in Linear ws = pairs (child_bytes Linear ws) (refs_in Linear ws)
children_in Bitmap ws = pairs (child_bytes Bitmap ws) (refs_in Bitmap ws)
children_in Full ws = numbered 0 (take 256 (drop 3 ws))

-- the least number of children; below, the greatest
abbrev pub least : Shape → ℕ
least Linear = 2
least Bitmap = 9
least Full = 128

abbrev pub most : Shape → ℕ
most Linear = 8
most Bitmap = 127
most Full = 256

-- the words that are used for this many children
abbrev pub used_words : Shape → ℕ → ℕ
used_words Linear n = 4 + n
used_words Bitmap n = 7 + n
used_words Full n = 259

-- whether the word is a reference to a block
abbrev pub is_child : ℕ → Bool
is_child w = not (w == 0) && is_reference w

-- whether the entry is a byte with such a word
abbrev pub is_child_entry : ℕ × ℕ → Bool
is_child_entry e = nat_lt e.0 256 && is_child e.1

-- an allocated block has this many words
abbrev pub IsRoom : ℕ → Type 0
IsRoom n = (len : ℕ) × (len ≤ 512) × (n ≡ room len)

-- the count is the number of bytes, by the shape; in a linear branch the unused bits of the word of
-- bytes are 0
abbrev pub IsCounted : Shape → List ℕ → Type 0
IsCounted Linear ws = get_or ws 3 0 < 256 ^ count_in ws
IsCounted Bitmap ws = length (child_bytes Bitmap ws) ≡ count_in ws
IsCounted Full ws = length (children_in Full ws) ≡ count_in ws

-- the words have the layout of a branch of this shape, with any number of children up to the
-- greatest
pub record IsLaid (shape : Shape) (ws : List ℕ) : Type 0 where
  pub most : count_in ws ≤ most shape
  pub room : used_words shape (count_in ws) ≤ length ws
  pub counted : IsCounted shape ws
  pub rising : IsRising word_order (children_in shape ws)
  pub sound : IsTrue (list_all is_child_entry (children_in shape ws))

-- they also have the size for the words used, at least the least number of children, a level and a
-- prefix
pub record IsShaped (shape : Shape) (ws : List ℕ) : Type 0 where
  pub laid : IsLaid shape ws
  pub size : length ws ≡ room (used_words shape (count_in ws))
  pub least : least shape ≤ count_in ws
  pub level : level_in ws ≤ 6
  pub prefix : prefix_in ws % 2 ^ (64 - 8 * level_in ws) ≡ 0

-- the words have the layout of a branch with exactly these parts
pub record IsBuilt (shape : Shape) (ws : List ℕ) (l p n : ℕ) (list : Entries ℕ) : Type 0 where
  pub laid : IsLaid shape ws
  pub level : level_in ws ≡ l
  pub prefix : prefix_in ws ≡ p
  pub population : population_in ws ≡ n
  pub children : children_in shape ws ≡ list

-- the block has room for one more child; a full branch always has
abbrev pub HasChildRoom : Shape → List ℕ → Type 0
HasChildRoom Linear ws = (count_in ws < 8) × (4 + count_in ws < length ws)
HasChildRoom Bitmap ws = (count_in ws < 127) × (7 + count_in ws < length ws)
HasChildRoom Full ws = Unit {0}
