-- Where a string is found: by its first word, and, if that is not its last word, in the array
-- below.
use Rattle.std.specs.Prelude.{ℕ, Bool, cond, List, drop, take, Option, Some, None}
use Rattle.std.specs.Ordering.{eq_by_cmp}
use Rattle.judy_model.specs.Contents.{Entries, string_order, word_order, value_of}
use Rattle.judy_packing.specs.Packing.{pack, word_bytes, is_last}
use Rattle.judy_string.specs.Strings.{Strings}

abbrev pub then_in : (ℕ → Strings) → List ℕ → Option ℕ → Option ℕ
then_in f s None = None
then_in f s (Some v) = cond (is_last (pack s)) (Some v) (value_of string_order (f v) (drop 8 s))

-- whether the first 8 bytes are those of the word that they make
abbrev pub fits : List ℕ → Bool
fits s = eq_by_cmp string_order (take 8 s) (word_bytes (pack s))

abbrev pub look_under : (ℕ → Strings) → List ℕ → Entries ℕ → Option ℕ
look_under f s es = cond (fits s) (then_in f s (value_of word_order es (pack s))) None
