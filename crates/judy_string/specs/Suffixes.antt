-- A suffix block: the rest of one string. Word 0 is its value and word 1 the number s of its bytes.
-- The bytes start in word 2, 8 a word, filled with bytes 0.
--     IsSuffix r b w     the reference w leads to a live suffix block of at most 8 * r bytes
--     suffix_entry b w   the string and its value
use Rattle.std.specs.Prelude.{◌≡◌, ℕ, ◌+◌, ◌*◌, ◌/◌, ◌^◌, ◌<◌, ◌≤◌, Bool, List, [], ◌∷◌, ◌++◌, take, drop, get_or, slice_set, length, IsTrue}
use Rattle.judy_arena.specs.Blocks.{Blocks, is_live, words_of, put}
use Rattle.judy_arena.specs.Frame.{Frame}
use Rattle.judy_arena.specs.Room.{room}
use Rattle.judy_refs.specs.References.{leads_to, number_of}
use Rattle.judy_refs.specs.declared.Kind.TheVariants.{Suffix}
use Rattle.judy_packing.specs.Packing.{word_bytes, IsString, packed}

-- whether a reference leads to a suffix block
abbrev pub is_suffix : ℕ → Bool
is_suffix w = leads_to w Suffix

-- how many words s bytes take
abbrev pub packed_suffix : ℕ → ℕ
packed_suffix s = (s + 7) / 8

-- the bytes of words one after another
abbrev pub suffix_bytes_of : List ℕ → List ℕ
suffix_bytes_of [] = []
suffix_bytes_of (w ∷ ws) = word_bytes w ++ suffix_bytes_of ws

-- the number of bytes of a suffix
abbrev pub suffix_size : List ℕ → ℕ
suffix_size ws = get_or ws 1 0

-- the words of a suffix that hold its bytes
abbrev pub string_words : List ℕ → List ℕ
string_words ws = take (packed_suffix (suffix_size ws)) (drop 2 ws)

-- the bytes of a suffix
unfoldable pub suffix_string : List ℕ → List ℕ
suffix_string ws = suffix_bytes_of (string_words ws)

-- the words of a suffix hold its bytes, with only zeros after the last one
abbrev pub IsFilled : List ℕ → Type 0
IsFilled ws = string_words ws ≡ packed (packed_suffix (suffix_size ws)) (suffix_string ws)

-- the words of the block of a suffix
abbrev pub suffix_words : Blocks → ℕ → List ℕ
suffix_words b w = words_of b (number_of w)

-- the blocks after this value is written to the suffix
abbrev pub with_suffix_value : Blocks → ℕ → ℕ → Blocks
with_suffix_value b w v = put b (number_of w) (slice_set (suffix_words b w) 0 v)

-- the entry of a suffix
abbrev pub suffix_entry : Blocks → ℕ → List ℕ × ℕ
suffix_entry b w = (suffix_string (suffix_words b w), get_or (suffix_words b w) 0 0)

pub record IsSuffix (r : ℕ) (b : Blocks) (w : ℕ) : Type 0 where
  pub live : IsTrue (is_live b (number_of w))
  -- the block is of the size for the words used
  pub exact : length (suffix_words b w) ≡ room (2 + packed_suffix (suffix_size (suffix_words b w)))
  -- bytes, none of them 0, as many as the block says
  pub bytes : IsString (suffix_string (suffix_words b w))
  pub size : length (suffix_string (suffix_words b w)) ≡ suffix_size (suffix_words b w)
  -- only zeros follow the last byte
  pub filled : IsFilled (suffix_words b w)
  -- no more bytes than may be left here
  pub short : suffix_size (suffix_words b w) ≤ 8 * r
  -- the value is a word
  pub value : (suffix_entry b w).1 < 2 ^ 64

-- the block w is new, and is a suffix of the string s with the value v
pub record IsMadeSuffix (before after : Blocks) (s : List ℕ) (v : ℕ) (w : ℕ) : Type 0 where
  pub suffix : IsTrue (is_suffix w)
  pub sound : (r : ℕ) → length s ≤ 8 * r → IsSuffix r after w
  pub entry : suffix_entry after w ≡ (s, v)
  pub frame : Frame before after [] (number_of w ∷ [])
