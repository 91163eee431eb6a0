-- The zeros at the end of bytes.
--     before_zeros_none, before_zeros_some    the place of the last byte that is none
--     before_zeros_append                     those of two lists
--     before_zeros_bound                      no more than all bytes
use Rattle.std.proofs.Common.{◌≡◌, ◌∙◌, ◌<◌, ◌≤◌, ◌+◌, ℕ, zero, suc, Bool, true, false, ◌==◌, ◌||◌, cond, not, List, [], ◌∷◌, ◌++◌, length, sym, ap, refl, arith}
use Rattle.std.specs.Prelude.{slice_index}
use Rattle.bstr.specs.Bytes.{is_in, not_in}
use Rattle.judy_disk.specs.Rewriting.{end_after, end_by, len_before_zeros, with_byte}

-- a byte of this set, and one that is not
or_false : (b : Bool) → (not (b || false) ≡ true → ⊥) → b ≡ true
or_false true h = refl
or_false false h = absurd (h refl)

nor_false : (b : Bool) → not (b || false) ≡ true → b ≡ false
nor_false true h = sym h
nor_false false h = refl

is_zero : (x : ℕ) → (not_in (0 ∷ []) x ≡ true → ⊥) → (x == 0) ≡ true
unfolding is_in
is_zero x h = or_false (x == 0) h

no_zero : (x : ℕ) → not_in (0 ∷ []) x ≡ true → (x == 0) ≡ false
unfolding is_in
no_zero x h = nor_false (x == 0) h

-- all are zeros
all_zeros : (xs : List ℕ) → ((k : ℕ) → k < length xs → (slice_index xs k == 0) ≡ true) → len_before_zeros xs ≡ 0
all_zeros [] h = refl
all_zeros (x ∷ xs) h =
    ap (with_byte x) (all_zeros xs (λ k l. h (suc k) (omega (arith, l)))) ∙ ap (λ t. cond t 0 1) (h 0 (omega arith))

-- one is none, and all after it are
last_one : (xs : List ℕ) (at : ℕ) → at < length xs → (slice_index xs at == 0) ≡ false
    → ((k : ℕ) → at < k → k < length xs → (slice_index xs k == 0) ≡ true) → len_before_zeros xs ≡ suc at
last_one [] at l is h = absurd (omega (arith, l))
last_one (x ∷ xs) zero l is h =
    ap (with_byte x) (all_zeros xs (λ k m. h (suc k) (omega arith) (omega (arith, m)))) ∙ ap (λ t. cond t 0 1) is
last_one (x ∷ xs) (suc at) l is h =
    ap (with_byte x) (last_one xs at (omega (arith, l)) is (λ k m n. h (suc k) (omega (arith, m)) (omega (arith, n))))

-- there is no byte that is none
pub before_zeros_none : (xs : List ℕ) → ((k : ℕ) → 0 ≤ k → k < length xs → not_in (0 ∷ []) (slice_index xs k) ≡ true → ⊥)
    → 0 ≡ len_before_zeros xs
before_zeros_none xs h = sym (all_zeros xs (λ k l. is_zero (slice_index xs k) (h k (omega arith) l)))

-- the last byte that is none
pub before_zeros_some : (xs : List ℕ) (at : ℕ) → at < length xs → not_in (0 ∷ []) (slice_index xs at) ≡ true
    → ((k : ℕ) → at + 1 ≤ k → k < length xs → not_in (0 ∷ []) (slice_index xs k) ≡ true → ⊥) → at + 1 ≡ len_before_zeros xs
before_zeros_some xs at l is h =
    let e = last_one xs at l (no_zero (slice_index xs at) is) (λ k m n. is_zero (slice_index xs k) (h k (omega (arith, m)) n)) in
    omega (arith, e)

pub before_zeros_bound : (xs : List ℕ) → len_before_zeros xs ≤ length xs
before_zeros_bound [] = omega arith
before_zeros_bound (x ∷ xs) = more (len_before_zeros xs) (before_zeros_bound xs)
  where
    at_most_one : (b : Bool) → cond b 0 1 ≤ suc (length xs)
    at_most_one true = omega arith
    at_most_one false = omega arith

    more : (n : ℕ) → n ≤ length xs → with_byte x n ≤ suc (length xs)
    more zero l = at_most_one (x == 0)
    more (suc n) l = omega (arith, l)

pub before_zeros_append : (xs ys : List ℕ) → len_before_zeros (xs ++ ys) ≡ end_after (len_before_zeros xs) (length xs) ys
before_zeros_append [] ys = first (len_before_zeros ys)
  where
    first : (n : ℕ) → n ≡ end_by 0 0 n
    first zero = refl
    first (suc n) = omega arith
before_zeros_append (x ∷ xs) ys = ap (with_byte x) (before_zeros_append xs ys) ∙ more (len_before_zeros ys)
  where
    later : (n m : ℕ) → n ≡ suc m → with_byte x n ≡ suc (suc m)
    later n m e = ap (with_byte x) e

    more : (n : ℕ) → with_byte x (end_by (len_before_zeros xs) (length xs) n) ≡ end_by (with_byte x (len_before_zeros xs)) (suc (length xs)) n
    more zero = refl
    more (suc n) = later (length xs + suc n) (length xs + n) (omega arith) ∙ omega arith
