-- Laws of members, for the crates above.
use Rattle.std.proofs.Common.{◌≡◌, ℕ, zero, suc, ◌+◌, ◌-◌, ◌<◌, ◌≤◌, Bool, true, false, cond, List, [], ◌∷◌, ◌++◌, length}
use Rattle.std.proofs.Common.{refl, ◌∙◌, arith, zero-add, ltb-true}
use Rattle.std.specs.Prelude.{nat_lt, All}
use Rattle.std.specs.List.{range_with_len}
use Rattle.std.specs.List.Sorted.{IsStrictlyIncreasing}
use Rattle.std.proofs.lemmas.List.FromFn.{length-range_with_len, get_or-range_with_len}
use Rattle.std.proofs.lemmas.List.Elements.{All-filter}
use Rattle.std.proofs.lemmas.List.Kept.{IsStrictlyIncreasing-filter}
use Rattle.judy_bitmap.specs.ByteSets.{has_bit, members, is_member, below, above}
use Rattle.judy_bitmap.proofs.lemmas.Each.{Each, Each-weaken, Each-filter}
use Rattle.judy_bitmap.proofs.lemmas.Places.{places, places-split}
use Rattle.judy_bitmap.proofs.lemmas.SetLemmas.{members-places, below-places, above-places, is_member-has_bit}

pub below-each : (set : List ℕ) (byte : ℕ) → Each (λ m. m < byte) (below set byte)
below-each set byte = Each-filter (λ m. m < byte) (λ m. nat_lt m byte) (λ m e. ltb-true m byte e) set

pub above-each : (set : List ℕ) (byte : ℕ) → Each (λ m. byte < m) (above set byte)
above-each set byte = Each-filter (λ m. byte < m) (λ m. nat_lt byte m) (λ m e. ltb-true byte m e) set

places-each : (p : ℕ → Bool) (lo n : ℕ) → Each (λ m. m < lo + n) (places p lo n)
places-each p lo zero = tt
places-each p lo (suc n) = kept (p lo) _ (Each-weaken (λ m. m < lo + 1 + n) (λ m. m < lo + suc n) (λ m h. omega arith)
    (places p (lo + 1) n) (places-each p (lo + 1) n))
  where
    kept : (b : Bool) (xs : List ℕ) → Each (λ m. m < lo + suc n) xs → Each (λ m. m < lo + suc n) (cond b (lo ∷ xs) xs)
    kept true xs each = (omega arith, each)
    kept false xs each = each

-- members are below 256
pub members-each : (words : List ℕ) → Each (λ m. m < 256) (members words)
members-each words = rw members-places (places-each (has_bit words) 0 256)

-- the members are those below a byte, the byte if it is one, and those above
pub members-around : (words : List ℕ) (byte : ℕ) → byte < 256
    → members words ≡ below (members words) byte ++ cond (is_member (members words) byte) (byte ∷ above (members words) byte) (above (members words) byte)
members-around words byte fits =
    let count : 256 - byte ≡ suc (255 - byte) = omega arith in
    let at : byte + 1 ≡ suc byte = omega arith in
    let upper : places (has_bit words) byte (256 - byte) ≡ cond (has_bit words byte)
    (byte ∷ places (has_bit words) (suc byte) (255 - byte)) (places (has_bit words) (suc byte) (255 - byte)) =
    rw (count, at) refl in
    members-places words ∙ places-split (has_bit words) 0 byte (256 - byte) 256 (omega arith)
    ∙ rw (zero-add, upper, below-places words byte fits, above-places words byte fits, is_member-has_bit words byte fits) refl

-- ---- members rise

abbrev pub Rises : List ℕ → Type 0
Rises [] = Unit {0}
Rises (x ∷ xs) = Each (λ y. x < y) xs × Rises xs

places-above : (p : ℕ → Bool) (lo n : ℕ) → Each (λ m. lo ≤ m) (places p lo n)
places-above p lo zero = tt
places-above p lo (suc n) = kept (p lo) _ (Each-weaken (λ m. lo + 1 ≤ m) (λ m. lo ≤ m) (λ m h. omega arith) (places p (lo + 1) n) (places-above p (lo + 1) n))
  where
    kept : (b : Bool) (xs : List ℕ) → Each (λ m. lo ≤ m) xs → Each (λ m. lo ≤ m) (cond b (lo ∷ xs) xs)
    kept true xs each = (omega arith, each)
    kept false xs each = each

places-rise : (p : ℕ → Bool) (lo n : ℕ) → Rises (places p lo n)
places-rise p lo zero = tt
places-rise p lo (suc n) = kept (p lo) _ (Each-weaken (λ m. lo + 1 ≤ m) (λ m. lo < m) (λ m h. omega arith) (places p (lo + 1) n)
    (places-above p (lo + 1) n)) (places-rise p (lo + 1) n)
  where
    kept : (b : Bool) (xs : List ℕ) → Each (λ m. lo < m) xs → Rises xs → Rises (cond b (lo ∷ xs) xs)
    kept true xs each rise = (each, rise)
    kept false xs each rise = rise

pub members-rise : (words : List ℕ) → Rises (members words)
members-rise words = rw members-places (places-rise (has_bit words) 0 256)

-- ---- members rise and are bytes, in std's words, as contracts say it

range-increasing : (lo n : ℕ) → IsStrictlyIncreasing (range_with_len lo n)
range-increasing lo n k within =
    let count : length (range_with_len lo n) ≡ n = length-range_with_len lo n in
    rw (get_or-range_with_len lo n k 0 (omega arith), get_or-range_with_len lo n (k + 1) 0 (omega arith)) (omega arith)

range-below : (lo n : ℕ) → All (λ m. m < lo + n) (range_with_len lo n)
range-below lo n k d within =
    let count : length (range_with_len lo n) ≡ n = length-range_with_len lo n in
    rw (get_or-range_with_len lo n k d (omega arith)) (omega arith)

pub members-increasing : (words : List ℕ) → IsStrictlyIncreasing (members words)
members-increasing words =
    rw members-places (IsStrictlyIncreasing-filter (has_bit words) (range_with_len 0 256) (range-increasing 0 256))

pub members-bytes : (words : List ℕ) → All (λ m. m < 256) (members words)
members-bytes words = rw members-places (All-filter (has_bit words) (λ m. m < 256) (range_with_len 0 256) (range-below 0 256))

-- ---- the members say each word
