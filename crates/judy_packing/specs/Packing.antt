-- Eight bytes as one word, the first byte highest. Missing bytes are 0.
--     pack s          the word of the first 8 bytes of s
--     packed n s      the first n words of s
--     byte_of w i     the byte at place i of a word; byte 0 is the highest
--     word_bytes w    the bytes of a word up to its first 0
--     is_last w       the word has a byte 0, so it ends a string
--     IsString s      bytes, none of them 0
use Rattle.std.specs.Prelude.{◌≡◌, ℕ, zero, suc, ◌+◌, ◌*◌, ◌/◌, ◌%◌, ◌^◌, ◌<◌, ◌-◌, Bool, cond, ◌==◌, nat_lt, List, [], ◌∷◌, length, take, drop, get_or}
use Rattle.std.specs.declared.cmp.Ordering.TheVariants.{Less}
use Rattle.judy_model.specs.Contents.{string_order}

-- the first n bytes as one number, the first byte highest
unfoldable pub pack_at : ℕ → List ℕ → ℕ
pack_at zero s = 0
pack_at (suc n) [] = 0
pack_at (suc n) (c ∷ s) = c * 256 ^ n + pack_at n s

-- the n bytes of a number, the highest first, up to the first 0
unfoldable pub bytes_at : ℕ → ℕ → List ℕ
bytes_at zero w = []
bytes_at (suc n) w = cond (w / 256 ^ n == 0) [] (w / 256 ^ n ∷ bytes_at n (w % 256 ^ n))

-- the word of the first 8 bytes
abbrev pub pack : List ℕ → ℕ
pack s = pack_at 8 s

-- the first n words of some bytes
abbrev pub packed : ℕ → List ℕ → List ℕ
packed zero s = []
packed (suc n) s = pack s ∷ packed n (drop 8 s)

-- the byte at a place of a word; byte 0 is the highest
abbrev pub byte_of : ℕ → ℕ → ℕ
byte_of w i = w / 2 ^ (56 - 8 * i) % 256

-- the bytes of a word up to its first 0
abbrev pub word_bytes : ℕ → List ℕ
word_bytes w = bytes_at 8 w

-- whether a word has a byte 0; then it is the last word of a string
abbrev pub is_last : ℕ → Bool
is_last w = nat_lt (length (word_bytes w)) 8

-- each of them is a byte
abbrev pub AreBytes : List ℕ → Type 0
AreBytes [] = Unit {0}
AreBytes (c ∷ s) = (c < 256) × AreBytes s

-- each of them is a byte, and none is 0
abbrev pub IsString : List ℕ → Type 0
IsString [] = Unit {0}
IsString (c ∷ s) = (0 < c) × (c < 256) × IsString s

-- words compare like the strings that begin with them
abbrev pub WordsCompareAsStrings : Type 0
WordsCompareAsStrings = (s t : List ℕ) → IsString s → IsString t → pack s < pack t → string_order s t ≡ Less

-- unpacking a word gives the packed bytes, and 0 for missing bytes
abbrev pub BytesComeBack : Type 0
BytesComeBack = (s : List ℕ) (i : ℕ) → AreBytes s → i < 8 → byte_of (pack s) i ≡ get_or s i 0

-- unpacking the word of a string gives its first 8 bytes
abbrev pub StringsComeBack : Type 0
StringsComeBack = (s : List ℕ) → IsString s → word_bytes (pack s) ≡ take 8 s
