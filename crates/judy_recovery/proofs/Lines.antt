-- Where the lines of records begin.
use Rattle.std.proofs.Common.{◌≡◌, ℕ, suc, ◌+◌, ◌-◌, ◌<◌, Bool, true, false, List, [], ◌∷◌, ◌++◌, length, refl, ◌∙◌, ap, arith, length-append}
use Rattle.std.specs.Prelude.{◌==◌}
use Rattle.std.proofs.lemmas.Bool.{false≢true}
use Rattle.judy_protocol.specs.Talks.{HasNoLf}
use Rattle.judy_recovery.specs.Played.{len_of_lines}

-- the first line and n more
len_first : (n : ℕ) (line after : List ℕ) → HasNoLf line → len_of_lines (suc n) (line ++ 10 ∷ after) ≡ length line + 1 + len_of_lines n after
len_first n [] after h = omega arith
len_first n (b ∷ line) after h = by (b == 10) refl (len_first n line after)
  where
    by : (v : Bool) → (b == 10) ≡ v → (HasNoLf line → len_of_lines (suc n) (line ++ 10 ∷ after) ≡ length line + 1 + len_of_lines n after)
        → len_of_lines (suc n) ((b ∷ line) ++ 10 ∷ after) ≡ length (b ∷ line) + 1 + len_of_lines n after
    by true e rest = absurd (false≢true (rw e at h))
    by false e rest = let all = rest (rw e at h) in rw e (omega (arith, all))

-- bytes that are no line
len_rest : (n : ℕ) (rest : List ℕ) → HasNoLf rest → len_of_lines (suc n) rest ≡ length rest
len_rest n [] h = refl
len_rest n (b ∷ bytes) h = by (b == 10) refl (len_rest n bytes)
  where
    by : (v : Bool) → (b == 10) ≡ v → (HasNoLf bytes → len_of_lines (suc n) bytes ≡ length bytes) → len_of_lines (suc n) (b ∷ bytes) ≡ length (b ∷ bytes)
    by true e rest = absurd (false≢true (rw e at h))
    by false e rest = let all = rest (rw e at h) in rw e (omega (arith, all))

-- so many lines were passed, and one more
pub start_more : (played passed : ℕ) (records rest line after : List ℕ)
    → len_of_lines played records + length rest ≡ length records + len_of_lines (played - passed) rest → passed < played
    → HasNoLf line → rest ≡ line ++ 10 ∷ after
    → len_of_lines played records + length after ≡ length records + len_of_lines (played - (passed + 1)) after
start_more played passed records rest line after sum more none is =
    let left : played - passed ≡ suc (played - (passed + 1)) = omega arith in
    let first : len_of_lines (played - passed) rest ≡ length line + 1 + len_of_lines (played - (passed + 1)) after =
    ap (λ n. len_of_lines n rest) left ∙ ap (len_of_lines (suc (played - (passed + 1)))) is ∙ len_first (played - (passed + 1)) line after none in
    omega (arith, sum, first, ap length is, length-append line (10 ∷ after))

-- so many lines were passed, and there is no other one
pub start_none : (played passed : ℕ) (records rest : List ℕ)
    → len_of_lines played records + length rest ≡ length records + len_of_lines (played - passed) rest → passed < played
    → HasNoLf rest → length records ≡ len_of_lines played records
start_none played passed records rest sum more none =
    let left : played - passed ≡ suc (played - (passed + 1)) = omega arith in
    let all : len_of_lines (played - passed) rest ≡ length rest =
    ap (λ n. len_of_lines n rest) left ∙ len_rest (played - (passed + 1)) rest none in
    omega (arith, sum, all)
