-- Sets of bytes, each as the rising list of its members.
use Rattle.std.specs.Prelude.{ℕ, ◌/◌, ◌%◌, Bool, not, List, ◌∷◌, ◌++◌, nat_le, nat_lt, ◌==◌, filter, slice_index}
use Rattle.std.specs.List.{list_any, range_with_len}
use Rattle.std.specs.Int.{bit_at}
pub use Rattle.judy_model.specs.Contents.{head_of, last_of}

-- whether the four words have the byte's bit: bit 0 of the first word is byte 0, bit 63 of the last
-- is byte 255
abbrev pub has_bit : List ℕ → ℕ → Bool
has_bit words byte = bit_at (slice_index words (byte / 64)) (byte % 64) == 1

-- the bytes whose bits are set in the four words
unfoldable pub members : List ℕ → List ℕ
members words = filter (has_bit words) (range_with_len 0 256)

-- whether the byte is a member
abbrev pub is_member : List ℕ → ℕ → Bool
is_member set byte = list_any (λ m. m == byte) set

-- the bytes that are not members
unfoldable pub absent : List ℕ → List ℕ
absent set = filter (λ byte. not (is_member set byte)) (range_with_len 0 256)

-- the members below a byte, from it on, up to it, and above it
abbrev pub below : List ℕ → ℕ → List ℕ
below set byte = filter (λ m. nat_lt m byte) set

abbrev pub at_least : List ℕ → ℕ → List ℕ
at_least set byte = filter (λ m. nat_le byte m) set

abbrev pub at_most : List ℕ → ℕ → List ℕ
at_most set byte = filter (λ m. nat_le m byte) set

abbrev pub above : List ℕ → ℕ → List ℕ
above set byte = filter (λ m. nat_lt byte m) set

-- the set with the byte, and without it
abbrev pub with_byte : List ℕ → ℕ → List ℕ
with_byte set byte = below set byte ++ (byte ∷ above set byte)

abbrev pub without_byte : List ℕ → ℕ → List ℕ
without_byte set byte = filter (λ m. not (m == byte)) set
