-- Laws of an array of any kind. H is the hash of the JudyHS arrays.
use Rattle.std.specs.Prelude.{◌≡◌, ℕ, zero, suc, ◌+◌, ◌*◌, ◌<◌, ◌≤◌, Bool, true, false, List, [], IsTrue, IsFalse}
use Rattle.judy_arena.specs.Blocks.{Blocks, is_live}
use Rattle.judy_arena.specs.Frame.{holds}
use Rattle.judy_arena.specs.Totals.{are_distinct, words_over}
use Rattle.judy_model.specs.declared.calls.Call.{Call}
use Rattle.judy_model.specs.Contents.{word_order, string_order}
use Rattle.judy_model.specs.Tenant.{changes, inserts}
use Rattle.judy_model.specs.WellFormed.{is_one_entry, is_long_entry, is_string_entry, is_bytes_entry, is_content}
use Rattle.judy_model.specs.declared.commands.Kind.{Kind}
use Rattle.judy_model.specs.declared.commands.Kind.TheVariants.{One, Long, Str, Bytes}
use Rattle.judy_directory.specs.Kinds.{spot_of}
use Rattle.judy_directory.specs.Places.{Stand}
use Rattle.judy_directory.specs.Shelf.{AreKept}
use Rattle.judy_words.specs.OneArrays.{IsOneArray, one_in}
use Rattle.judy_words.specs.LongArrays.{IsLongArray, long_in}
use Rattle.judy_string.specs.StringArrays.{IsStringArray, string_in}
use Rattle.judy_bytes.specs.BytesArrays.{IsBytesArray, bytes_in}
use Rattle.judy_kinds.specs.Kinds.{kind_of_key, IsArrayOf, numbers_of_array, entries_of, IsPlaceOf, IsPlaceAt, place_numbers, IsSameAt}
use Rattle.judy_kinds.specs.Calls.{asks_at}

-- The key of the directory gives the kind.
abbrev pub KeysTellKinds : Type 0
KeysTellKinds = (tenant : ℕ) (kind : Kind) (name : List ℕ) → kind_of_key (spot_of tenant kind name) ≡ kind

-- The empty reference is a sound array of every kind. An array survives a change that lists none of
-- its block numbers.
abbrev pub ArraysAreKept : Type 0
ArraysAreKept = (H : List ℕ → ℕ) → AreKept (IsPlaceAt H) place_numbers IsSameAt

-- The empty reference has no entries, for any kind.
pub record HoldsNothing (b : Blocks) (w : ℕ) : Type 0 where
  pub set : one_in b w ≡ []
  pub map : long_in b w ≡ []
  pub string : string_in b w ≡ []
  pub bytes : bytes_in b w ≡ []

-- A sound array without entries has the empty reference, for any kind.
pub record EmptyIsNothing (H : List ℕ → ℕ) (b : Blocks) (w : ℕ) : Type 0 where
  pub set : IsOneArray b w → one_in b w ≡ [] → w ≡ 0
  pub map : IsLongArray b w → long_in b w ≡ [] → w ≡ 0
  pub string : IsStringArray b w → string_in b w ≡ [] → w ≡ 0
  pub bytes : IsBytesArray H b w → bytes_in b w ≡ [] → w ≡ 0
  pub any : (kind : Kind) → IsArrayOf H kind b w → entries_of kind b w ≡ 0 → w ≡ 0

-- An array is empty exactly if its reference is empty.
abbrev pub OnlyNothingIsEmpty : Type 0
OnlyNothingIsEmpty = (H : List ℕ → ℕ) (b : Blocks) → HoldsNothing b 0 × ((w : ℕ) → EmptyIsNothing H b w)

-- Only an insertion asks for a new entry, and an insertion is a call that can change arrays.
abbrev pub InsertionsAloneAsk : Type 0
InsertionsAloneAsk =
    (b : Blocks) (w : ℕ) (call : Call) → (IsFalse (inserts call) → asks_at b w call ≡ false) × (IsTrue (inserts call) → changes call ≡ true)

-- the keys of the kind are words
abbrev pub has_words : Kind → Bool
has_words One = true
has_words Long = true
has_words Str = false
has_words Bytes = false

-- at most 12 n - 8 words for n entries; no words for no entries
abbrev pub AreFewWords : ℕ → ℕ → Type 0
AreFewWords zero words = words ≡ 0
AreFewWords (suc n) words = words + 8 ≤ 12 * suc n

-- The blocks of an array are live and distinct. They have at most 16 words for each piece, and at
-- least 4 words if there is an entry. Those of a Judy1 or JudyL of n entries have at most 12 n - 8
-- words.
pub record IsSmall (kind : Kind) (b : Blocks) (p : Stand) : Type 0 where
  pub live : (q : ℕ) → holds q (numbers_of_array kind b p.root) ≡ true → IsTrue (is_live b q)
  pub distinct : IsTrue (are_distinct (numbers_of_array kind b p.root))
  pub most : words_over b (numbers_of_array kind b p.root) ≤ 16 * p.pieces
  pub least : 0 < p.entries → 4 ≤ words_over b (numbers_of_array kind b p.root)
  pub tight : IsTrue (has_words kind) → AreFewWords p.entries (words_over b (numbers_of_array kind b p.root))

-- The blocks of every array have few words for its pieces.
abbrev pub PlacesAreSmall : Type 0
PlacesAreSmall = (H : List ℕ → ℕ) (kind : Kind) (b : Blocks) (p : Stand) → IsPlaceOf H kind b p → IsSmall kind b p

-- the keys of the array are strictly increasing, and each entry is one of its kind
abbrev pub IsInForm : Kind → Blocks → ℕ → Type 0
IsInForm One b w = IsTrue (is_content word_order is_one_entry (one_in b w))
IsInForm Long b w = IsTrue (is_content word_order is_long_entry (long_in b w))
IsInForm Str b w = IsTrue (is_content string_order is_string_entry (string_in b w))
IsInForm Bytes b w = IsTrue (is_content string_order is_bytes_entry (bytes_in b w))

-- The content of every sound array is well-formed.
abbrev pub ContentsAreInForm : Type 0
ContentsAreInForm = (H : List ℕ → ℕ) (kind : Kind) (b : Blocks) (w : ℕ) → IsArrayOf H kind b w → IsInForm kind b w
