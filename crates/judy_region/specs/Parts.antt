-- Overwriting a part of a list of words.
use Rattle.std.specs.Prelude.{◌≡◌, refl, ℕ, ◌+◌, List, ◌++◌, length, take, drop}
use mathlib.Core.Path.{◌∙◌}
use Rattle.std.specs.List.{refill, length_refill}

-- the words after a part is overwritten. The part and the whole keep their sizes: of too many new
-- words only the first are written; too few new words overwrite only the beginning of the part
abbrev pub with_part : List ℕ → ℕ → ℕ → List ℕ → List ℕ
with_part words start len ws = refill (length words) words (take start words ++ (refill len (take len (drop start words)) ws ++ drop (start + len) words))

pub length-with_part : (n : ℕ) (words : List ℕ) (start len : ℕ) (ws : List ℕ) → n ≡ length words → n ≡ length (with_part words start len ws)
length-with_part n words start len ws e = e ∙ length_refill (length words) words _ refl
