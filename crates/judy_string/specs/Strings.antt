-- The content of a string array: nested word arrays. If only one string continues after a word, its
-- rest is in a suffix block.
--     content b w                 the strings of the array that the reference w leads to
--     nested_numbers b w          the numbers of all its blocks
--     IsArray b w                 it is sound
--     the same with _at (suc r)   a node for at most 8 * r bytes left of a string: a word array,
--                                 or a suffix block
use Rattle.std.specs.Prelude.{◌≡◌, ◌≢◌, ℕ, zero, suc, ◌*◌, ◌≤◌, true, false, cond, List, [], ◌∷◌, ◌++◌, length, Some, IsTrue}
use Rattle.std.specs.Bool.{MatchBool}
use Rattle.judy_arena.specs.Blocks.{Blocks}
use Rattle.judy_arena.specs.Frame.{Frame}
use Rattle.judy_refs.specs.References.{number_of}
use Rattle.judy_arena.specs.Totals.{are_distinct}
use Rattle.judy_model.specs.Contents.{Entries, word_order, value_of}
use Rattle.judy_tree.specs.Root.{IsRoot, entries, numbers as own_numbers}
use Rattle.judy_packing.specs.Packing.{pack, word_bytes, is_last, IsString}
use Rattle.judy_string.specs.Suffixes.{is_suffix, suffix_entry, IsSuffix}

abbrev pub Strings : Type 0
Strings = Entries (List ℕ)

-- each string with these bytes before it
abbrev pub after : List ℕ → Strings → Strings
after p [] = []
after p (e ∷ es) = (p ++ e.0, e.1) ∷ after p es

-- the strings of one entry of a word array: one string, or those that continue after its 8 bytes
abbrev pub part : (ℕ → Strings) → ℕ × ℕ → Strings
part f e = cond (is_last e.0) ((word_bytes e.0, e.1) ∷ []) (after (word_bytes e.0) (f e.1))

-- the block numbers below one entry
abbrev pub part_numbers : (ℕ → List ℕ) → ℕ × ℕ → List ℕ
part_numbers used e = cond (is_last e.0) [] (used e.1)

abbrev pub joined_strings : {A : Type 0} → (ℕ × ℕ → List A) → Entries ℕ → List A
joined_strings g [] = []
joined_strings g (e ∷ es) = g e ++ joined_strings g es

unfoldable pub nested_content_at : ℕ → Blocks → ℕ → Strings
nested_content_at zero b w = []
nested_content_at (suc r) b w =
    cond (is_suffix w) (suffix_entry b w ∷ []) (joined_strings (part (nested_content_at r b)) (entries true b w))

unfoldable pub nested_numbers_at : ℕ → Blocks → ℕ → List ℕ
nested_numbers_at zero b w = []
nested_numbers_at (suc r) b w =
    cond (is_suffix w) (number_of w ∷ [])
    (own_numbers b w ++ joined_strings (part_numbers (nested_numbers_at r b)) (entries true b w))

-- the strings that continue under one entry of a word array, for at most 8 * r bytes left
abbrev pub content_under : ℕ → Blocks → ℕ × ℕ → Strings
content_under r b e = part (nested_content_at r b) e

-- the numbers of the blocks under the entry
abbrev pub numbers_under : ℕ → Blocks → ℕ × ℕ → List ℕ
numbers_under r b e = part_numbers (nested_numbers_at r b) e

-- the word holds bytes of a string, and only zeros after its first 0
pub record IsSpelt (k : ℕ) : Type 0 where
  pub bytes : IsString (word_bytes k)
  pub packed : pack (word_bytes k) ≡ k

-- at k the array has v, the reference of a further node
pub record Leads (b : Blocks) (w : ℕ) (k : ℕ) (v : ℕ) : Type 0 where
  pub found : value_of word_order (entries true b w) k ≡ Some v
  pub more : is_last k ≡ false

-- a word array over nodes; `Sound` and `used` give their soundness and their block numbers; at most
-- `most` bytes are left
pub record IsNest (most : ℕ) (b : Blocks) (w : ℕ) (Sound : ℕ → Type 0) (used : ℕ → List ℕ) : Type 0 where
  pub root : IsRoot true b w
  pub spelt : (k v : ℕ) → value_of word_order (entries true b w) k ≡ Some v → IsSpelt k
  pub short : (k v : ℕ) → value_of word_order (entries true b w) k ≡ Some v → length (word_bytes k) ≤ most
  -- each node below is sound and not empty
  pub sound : (k v : ℕ) → Leads b w k v → Sound v
  pub filled : (k v : ℕ) → Leads b w k v → v ≢ 0
  -- no block is used twice
  pub once : IsTrue (are_distinct (own_numbers b w ++ joined_strings (part_numbers used) (entries true b w)))

unfoldable pub IsNestedAt : ℕ → Blocks → ℕ → Type 0
IsNestedAt zero b w = ⊥
IsNestedAt (suc r) b w = MatchBool (is_suffix w) (IsSuffix r b w) (IsNest (8 * r) b w (IsNestedAt r b) (nested_numbers_at r b))

-- a string of at most 1000 bytes has at most 126 words
abbrev pub content : Blocks → ℕ → Strings
content b w = nested_content_at 126 b w

abbrev pub nested_numbers : Blocks → ℕ → List ℕ
nested_numbers b w = nested_numbers_at 126 b w

-- the root is a word array, not a suffix
pub record IsArray (b : Blocks) (w : ℕ) : Type 0 where
  pub node : IsNestedAt 126 b w
  pub array : is_suffix w ≡ false

-- the node w became x, which has the strings l, and no block of another node changed
pub record IsChanged (m : ℕ) (a c : Blocks) (w x : ℕ) (l : Strings) : Type 0 where
  pub array : IsNestedAt m c x
  pub content : nested_content_at m c x ≡ l
  pub frame : Frame a c (nested_numbers_at m a w) (nested_numbers_at m c x)
