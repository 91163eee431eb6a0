-- The bytes of names.
--     name_length key       the bytes of the name in a key: what a key begins with is no byte of it
--     lengths keys          the bytes of the names in these keys, added up
--     length_if place key   the bytes of the name in the key, if there is a place
--     name_bytes places     the bytes of all names that have a place, added up, modulo 2^64
use Rattle.std.specs.Prelude.{ℕ, ◌%◌, ◌^◌, List, Option, cond, drop, is_some, length, sum_by}
use Rattle.std.specs.FinMap.{FinMap, keys}
use Rattle.judy_model.specs.Contents.{string_order}
use Rattle.judy_directory.specs.Places.{Stand}

-- the bytes of the name in a key, which begins with the number of tenant and kind
abbrev pub name_length : List ℕ → ℕ
name_length key = length (drop 1 key)

-- the bytes of the names in these keys, added up
abbrev pub lengths : List (List ℕ) → ℕ
lengths keys = sum_by name_length keys

-- the bytes of the name in the key, if there is a place
abbrev pub length_if : Option Stand → List ℕ → ℕ
length_if place key = cond (is_some place) (name_length key) 0

-- the bytes of all names that have a place, added up, modulo 2^64
unfoldable pub name_bytes : FinMap string_order Stand → ℕ
name_bytes places = lengths (keys places) % 2 ^ 64
