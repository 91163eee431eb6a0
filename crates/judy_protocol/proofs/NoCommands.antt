-- Words that are no commands.
use Rattle.std.proofs.Common.{◌≡◌, ℕ, ◌≤◌, Bool, not, List, ◌++◌, length, None, refl, arith}
use Rattle.std.specs.Prelude.{codes, nat_le, slice_index, ◌==◌, ◌||◌}
use Rattle.std.proofs.lemmas.Bool.Decides.{nat_tests}
use Rattle.judy_model.specs.Commands.{commands}
use Rattle.judy_model.specs.Grammar.{at_command}
use Rattle.judy_protocol.proofs.Texts.{none_passes}

-- commands with this second letter have at most so many letters
abbrev pub is_short : ℕ → ℕ → List ℕ → Bool
is_short letter most word = nat_le (length word) most || not (slice_index word 1 == letter)

-- three letters or more after those of a kind
pub one_long : (letters : List ℕ) → 3 ≤ length letters → at_command (codes "J1" ++ letters) commands ≡ None
one_long letters long = none_passes (is_short 49 4) (codes "J1" ++ letters) commands refl (grind (arith, nat_tests))

pub long_long : (letters : List ℕ) → 3 ≤ length letters → at_command (codes "JL" ++ letters) commands ≡ None
long_long letters long = none_passes (is_short 76 4) (codes "JL" ++ letters) commands refl (grind (arith, nat_tests))

pub string_long : (letters : List ℕ) → 3 ≤ length letters → at_command (codes "JSL" ++ letters) commands ≡ None
string_long letters long = none_passes (is_short 83 5) (codes "JSL" ++ letters) commands refl (grind (arith, nat_tests))

pub bytes_long : (letters : List ℕ) → 3 ≤ length letters → at_command (codes "JHS" ++ letters) commands ≡ None
bytes_long letters long = none_passes (is_short 72 5) (codes "JHS" ++ letters) commands refl (grind (arith, nat_tests))

-- those of four letters have one of these in the third place: the letter of an insertion, of a removal, of a count or of a
-- search
abbrev pub has_known_third : ℕ → ℕ → ℕ → List ℕ → Bool
has_known_third letter insertion removal word = not (length word == 4) || not (slice_index word 1 == letter) || slice_index word 2 == 66
    || slice_index word 2 == insertion || slice_index word 2 == removal || slice_index word 2 == 70 || slice_index word 2 == 78 || slice_index word 2 == 76 || slice_index word 2 == 80

-- those of five letters have a removal's letter or an `F` in the fourth place
abbrev pub has_known_fourth : ℕ → ℕ → List ℕ → Bool
has_known_fourth letter removal word = not (length word == 5) || not (slice_index word 1 == letter) || slice_index word 3 == removal || slice_index word 3 == 70
