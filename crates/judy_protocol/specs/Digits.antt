-- The word that a field of digits writes.
use Rattle.std.specs.Prelude.{ℕ, ◌&&◌, ◌==◌, Bool, true, List, [], ◌∷◌, length, Option, Some, None, if◌then◌else◌, nat_le}
use Rattle.std.specs.List.{list_all}
use Rattle.std.specs.Str.Parse.{digits_value}
use Rattle.judy_model.specs.Contents.{max_word}
use Rattle.judy_model.specs.Grammar.{is_digit}

-- the word that 1 to 20 digits write
abbrev pub digits_of : List ℕ → Option ℕ
digits_of field =
    if nat_le 1 (length field) && nat_le (length field) 20 && list_all is_digit field && nat_le (digits_value 10 field) max_word
    then Some (digits_value 10 field)
    else None

-- whether a text may follow a field: it is empty or begins with a space
abbrev pub may_follow : List ℕ → Bool
may_follow [] = true
may_follow (b ∷ bytes) = b == 32
