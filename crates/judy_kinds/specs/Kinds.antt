-- An array of any of the four kinds. H is the hash of JudyHS. A place is a reference with the
-- numbers of entries and pieces.
--     kind_at byte, kind_of_key key   the kind, by the first byte of a directory's key
--     IsArrayOf H kind b w            the reference w leads to a sound array of the kind in the
--                                     blocks b
--     numbers_of_array kind b w       the numbers of its blocks
--     IsSameOf kind a b w             it holds the same in both blocks
--     entries_of, pieces_at           its numbers of entries and pieces
--     IsPlaceOf H kind b p            the place leads to a sound array, and its counts are those of
--                                     the array
use Rattle.std.specs.Prelude.{◌≡◌, ℕ, zero, suc, List, [], ◌∷◌, length}
use Rattle.judy_arena.specs.Blocks.{Blocks}
use Rattle.judy_model.specs.Pieces.{word_pieces, string_pieces, pieces_of}
use Rattle.judy_model.specs.declared.commands.Kind.{Kind}
use Rattle.judy_model.specs.declared.commands.Kind.TheVariants.{One, Long, Str, Bytes}
use Rattle.judy_directory.specs.Places.{Stand}
use Rattle.judy_words.specs.OneArrays.{IsOneArray, one_in, one_numbers as numbers_of_set}
use Rattle.judy_words.specs.LongArrays.{IsLongArray, long_in, long_numbers as numbers_of_map}
use Rattle.judy_string.specs.StringArrays.{IsStringArray, string_in, string_numbers as numbers_of_strings}
use Rattle.judy_bytes.specs.BytesArrays.{IsBytesArray, bytes_in, bytes_numbers as numbers_of_bytes}

-- the kind in a byte of tenant and kind
abbrev pub kind_at : ℕ → Kind
kind_at zero = One
kind_at (suc zero) = Long
kind_at (suc (suc zero)) = Str
kind_at (suc (suc (suc zero))) = Bytes
kind_at (suc (suc (suc (suc n)))) = kind_at n

-- the kind of the array at a key of the directory
abbrev pub kind_of_key : List ℕ → Kind
kind_of_key [] = One
kind_of_key (byte ∷ name) = kind_at byte

-- the reference leads to a sound array of the kind
abbrev pub IsArrayOf : (List ℕ → ℕ) → Kind → Blocks → ℕ → Type 0
IsArrayOf H One b w = IsOneArray b w
IsArrayOf H Long b w = IsLongArray b w
IsArrayOf H Str b w = IsStringArray b w
IsArrayOf H Bytes b w = IsBytesArray H b w

-- the numbers of the blocks of an array
abbrev pub numbers_of_array : Kind → Blocks → ℕ → List ℕ
numbers_of_array One b w = numbers_of_set b w
numbers_of_array Long b w = numbers_of_map b w
numbers_of_array Str b w = numbers_of_strings b w
numbers_of_array Bytes b w = numbers_of_bytes b w

-- the array has the same content in both blocks
abbrev pub IsSameOf : Kind → Blocks → Blocks → ℕ → Type 0
IsSameOf One a b w = one_in b w ≡ one_in a w
IsSameOf Long a b w = long_in b w ≡ long_in a w
IsSameOf Str a b w = string_in b w ≡ string_in a w
IsSameOf Bytes a b w = bytes_in b w ≡ bytes_in a w

-- the number of entries of an array
abbrev pub entries_of : Kind → Blocks → ℕ → ℕ
entries_of One b w = length (one_in b w)
entries_of Long b w = length (long_in b w)
entries_of Str b w = length (string_in b w)
entries_of Bytes b w = length (bytes_in b w)

-- the number of pieces of an array
abbrev pub pieces_at : Kind → Blocks → ℕ → ℕ
pieces_at One b w = pieces_of word_pieces (one_in b w)
pieces_at Long b w = pieces_of word_pieces (long_in b w)
pieces_at Str b w = pieces_of string_pieces (string_in b w)
pieces_at Bytes b w = pieces_of string_pieces (bytes_in b w)

-- the place leads to a sound array of the kind, and its counts are those of the array
pub record IsPlaceOf (H : List ℕ → ℕ) (kind : Kind) (b : Blocks) (p : Stand) : Type 0 where
  pub sound : IsArrayOf H kind b p.root
  pub entries : p.entries ≡ entries_of kind b p.root
  pub pieces : p.pieces ≡ pieces_at kind b p.root

-- the same by the key of the directory, as judy_directory's `IsShelf` needs it
abbrev pub IsPlaceAt : (List ℕ → ℕ) → List ℕ → Blocks → Stand → Type 0
IsPlaceAt H key b p = IsPlaceOf H (kind_of_key key) b p

abbrev pub place_numbers : List ℕ → Blocks → ℕ → List ℕ
place_numbers key b w = numbers_of_array (kind_of_key key) b w

abbrev pub IsSameAt : List ℕ → Blocks → Blocks → ℕ → Type 0
IsSameAt key a b w = IsSameOf (kind_of_key key) a b w
