-- Single words that are spelt: what their bytes say.
use Rattle.std.proofs.Common.{◌≡◌, ℕ, zero, suc, ◌+◌, ◌/◌, ◌%◌, ◌<◌, ◌≤◌, Bool, true, false, ◌==◌, List, [], ◌∷◌, ◌++◌, take}
use Rattle.std.proofs.Common.{length, get_or, ap, sym, ◌∙◌, refl, subst, arith}
use Rattle.std.specs.Prelude.{nat_lt}
use Rattle.std.specs.Int.{w64, to_be_bytes}
use Rattle.std.proofs.lemmas.Bool.Decides.{nat_tests}
use Rattle.std.proofs.lemmas.List.{get_or_past}
use Rattle.judy_packing.specs.Packing.{word_bytes, byte_of, is_last, IsString}
use Rattle.judy_packing.proofs.lemmas.Packs.{bytes-back}
use Rattle.judy_string.specs.Strings.{IsSpelt}
use Rattle.judy_string.proofs.Joins.{more_long}
use Rattle.judy_string.proofs.Suffixes.{string-bytes, take-next}

-- the bytes of a spelt word
pub spelt-byte : (k i : ℕ) → IsSpelt k → i < 8 → byte_of k i ≡ get_or (word_bytes k) i 0
spelt-byte k i h less = ap (λ x. byte_of x i) (sym h.packed) ∙ bytes-back (word_bytes k) i (string-bytes (word_bytes k) h.bytes) less

some_byte : (s : List ℕ) (i : ℕ) → IsString s → i < length s → 0 < get_or s i 0
some_byte [] i h less = absurd (omega arith)
some_byte (c ∷ s) zero h less = h.0
some_byte (c ∷ s) (suc i) h less = some_byte s i h.2 (omega arith)

-- a word is a string's last where its last byte is 0
pub last-byte : (k : ℕ) → IsSpelt k → (k % 256 == 0) ≡ is_last k
last-byte k h = by (nat_lt (length (word_bytes k)) 8) refl
  where
    at : k % 256 ≡ get_or (word_bytes k) 7 0
    at = let e : k / 1 ≡ k = omega arith in sym (ap (λ x. x % 256) e) ∙ spelt-byte k 7 h (omega arith)

    zero_test : (n : ℕ) → n ≡ 0 → (n == 0) ≡ true
    zero_test n e = grind (arith, nat_tests)

    some_test : (n : ℕ) → 0 < n → (n == 0) ≡ false
    some_test n e = grind (arith, nat_tests)

    lt : (n : ℕ) → nat_lt n 8 ≡ true → n ≤ 7
    lt n e = grind (arith, nat_tests)

    ge : (n : ℕ) → nat_lt n 8 ≡ false → 7 < n
    ge n e = grind (arith, nat_tests)

    by : (t : Bool) → nat_lt (length (word_bytes k)) 8 ≡ t → (k % 256 == 0) ≡ nat_lt (length (word_bytes k)) 8
    by true e = zero_test (k % 256) (at ∙ get_or_past (word_bytes k) 7 0 (lt (length (word_bytes k)) e)) ∙ sym e
    by false e = some_test (k % 256) (subst (λ x. 0 < x) (sym at) (some_byte (word_bytes k) 7 h.bytes (ge (length (word_bytes k)) e))) ∙ sym e

-- one byte more of a word
pub spelt-more : (k i x : ℕ) → IsSpelt k → i < 8 → x ≡ byte_of k i → (x == 0) ≡ false → take (i + 1) (word_bytes k) ≡ take i (word_bytes k) ++ x ∷ []
spelt-more k i x h less e some =
    let at : x ≡ get_or (word_bytes k) i 0 = e ∙ spelt-byte k i h less in
    by (nat_lt i (length (word_bytes k))) refl at
  where
    in_range : (m n : ℕ) → nat_lt m n ≡ true → m < n
    in_range m n h = grind (arith, nat_tests)

    past : (m n : ℕ) → nat_lt m n ≡ false → n ≤ m
    past m n h = grind (arith, nat_tests)

    never : (n : ℕ) → n ≡ 0 → (n == 0) ≡ false → ⊥
    never n h k = grind (arith, nat_tests)

    by : (t : Bool) → nat_lt i (length (word_bytes k)) ≡ t → x ≡ get_or (word_bytes k) i 0 → take (i + 1) (word_bytes k) ≡ take i (word_bytes k) ++ x ∷ []
    by true j at = take-next i (word_bytes k) (in_range i _ j) ∙ ap (λ y. take i (word_bytes k) ++ y ∷ []) (sym at)
    by false j at = absurd (never x (at ∙ get_or_past (word_bytes k) i 0 (past i _ j)) some)

-- no byte more
pub spelt-end : (k i x : ℕ) → IsSpelt k → i < 8 → x ≡ byte_of k i → (x == 0) ≡ true → length (word_bytes k) ≤ i
spelt-end k i x h less e none =
    let at : x ≡ get_or (word_bytes k) i 0 = e ∙ spelt-byte k i h less in
    by (nat_lt i (length (word_bytes k))) refl at
  where
    in_range : (m n : ℕ) → nat_lt m n ≡ true → m < n
    in_range m n h = grind (arith, nat_tests)

    past : (m n : ℕ) → nat_lt m n ≡ false → n ≤ m
    past m n h = grind (arith, nat_tests)

    zero_at : (n : ℕ) → (n == 0) ≡ true → n ≡ 0
    zero_at n h = grind (arith, nat_tests)

    by : (t : Bool) → nat_lt i (length (word_bytes k)) ≡ t → x ≡ get_or (word_bytes k) i 0 → length (word_bytes k) ≤ i
    by true j at = let s = some_byte (word_bytes k) i h.bytes (in_range i _ j) in let z = zero_at x none in absurd (omega (arith, s, z, at))
    by false j at = past i _ j

-- a byte that is not 0 is one of the word's
pub spelt-in : (k i x : ℕ) → IsSpelt k → i < 8 → x ≡ byte_of k i → (x == 0) ≡ false → i < length (word_bytes k)
spelt-in k i x h less e some = by (nat_lt i (length (word_bytes k))) refl (e ∙ spelt-byte k i h less)
  where
    in_range : (m n : ℕ) → nat_lt m n ≡ true → m < n
    in_range m n h = grind (arith, nat_tests)

    past : (m n : ℕ) → nat_lt m n ≡ false → n ≤ m
    past m n h = grind (arith, nat_tests)

    never : (n : ℕ) → n ≡ 0 → (n == 0) ≡ false → ⊥
    never n h k = grind (arith, nat_tests)

    by : (t : Bool) → nat_lt i (length (word_bytes k)) ≡ t → x ≡ get_or (word_bytes k) i 0 → i < length (word_bytes k)
    by true j at = in_range i _ j
    by false j at = absurd (never x (at ∙ get_or_past (word_bytes k) i 0 (past i _ j)) some)

pub take-least : (i : ℕ) (s : List ℕ) → length (take i s) ≤ i
take-least zero s = omega arith
take-least (suc i) [] = omega arith
take-least (suc i) (c ∷ s) = let h = take-least i s in omega arith

pub zero-test : (n : ℕ) → n ≡ 0 → (n == 0) ≡ true
zero-test n h = grind (arith, nat_tests)

pub some-test : (n : ℕ) → (n ≡ 0 → ⊥) → (n == 0) ≡ false
some-test n h = grind (arith, nat_tests)

-- a list of eight bytes, byte by byte
eight : (s : List ℕ) → length s ≡ 8 → get_or s 0 0 ∷ get_or s 1 0 ∷ get_or s 2 0 ∷ get_or s 3 0 ∷ get_or s 4 0 ∷ get_or s 5 0
    ∷ get_or s 6 0 ∷ get_or s 7 0 ∷ [] ≡ s
eight [] n = absurd (omega arith)
eight (a ∷ []) n = absurd (omega arith)
eight (a ∷ b ∷ []) n = absurd (omega arith)
eight (a ∷ b ∷ c ∷ []) n = absurd (omega arith)
eight (a ∷ b ∷ c ∷ d ∷ []) n = absurd (omega arith)
eight (a ∷ b ∷ c ∷ d ∷ e ∷ []) n = absurd (omega arith)
eight (a ∷ b ∷ c ∷ d ∷ e ∷ f ∷ []) n = absurd (omega arith)
eight (a ∷ b ∷ c ∷ d ∷ e ∷ f ∷ g ∷ []) n = absurd (omega arith)
eight (a ∷ b ∷ c ∷ d ∷ e ∷ f ∷ g ∷ h ∷ []) n = refl
eight (a ∷ b ∷ c ∷ d ∷ e ∷ f ∷ g ∷ h ∷ i ∷ s) n = absurd (omega arith)

-- all bytes of a word that is not the last of a string
pub spelt-whole : (k : ℕ) → IsSpelt k → is_last k ≡ false → to_be_bytes w64 k ≡ word_bytes k
spelt-whole k h more =
    let e0 : byte_of k 0 ≡ get_or (word_bytes k) 0 0 = spelt-byte k 0 h (omega arith) in
    let e1 : byte_of k 1 ≡ get_or (word_bytes k) 1 0 = spelt-byte k 1 h (omega arith) in
    let e2 : byte_of k 2 ≡ get_or (word_bytes k) 2 0 = spelt-byte k 2 h (omega arith) in
    let e3 : byte_of k 3 ≡ get_or (word_bytes k) 3 0 = spelt-byte k 3 h (omega arith) in
    let e4 : byte_of k 4 ≡ get_or (word_bytes k) 4 0 = spelt-byte k 4 h (omega arith) in
    let e5 : byte_of k 5 ≡ get_or (word_bytes k) 5 0 = spelt-byte k 5 h (omega arith) in
    let e6 : byte_of k 6 ≡ get_or (word_bytes k) 6 0 = spelt-byte k 6 h (omega arith) in
    let one : k / 1 ≡ k = omega arith in
    let e7 : k % 256 ≡ get_or (word_bytes k) 7 0 = sym (ap (λ x. x % 256) one) ∙ spelt-byte k 7 h (omega arith) in
    let all : to_be_bytes w64 k ≡ get_or (word_bytes k) 0 0 ∷ get_or (word_bytes k) 1 0 ∷ get_or (word_bytes k) 2 0
    ∷ get_or (word_bytes k) 3 0 ∷ get_or (word_bytes k) 4 0 ∷ get_or (word_bytes k) 5 0 ∷ get_or (word_bytes k) 6 0
    ∷ get_or (word_bytes k) 7 0 ∷ [] = same e0 e1 e2 e3 e4 e5 e6 e7 in
    all ∙ eight (word_bytes k) (more_long k more)
  where
    same : {a0 a1 a2 a3 a4 a5 a6 a7 b0 b1 b2 b3 b4 b5 b6 b7 : ℕ} → a0 ≡ b0 → a1 ≡ b1 → a2 ≡ b2 → a3 ≡ b3 → a4 ≡ b4 → a5 ≡ b5 → a6 ≡ b6
        → a7 ≡ b7 → a0 ∷ a1 ∷ a2 ∷ a3 ∷ a4 ∷ a5 ∷ a6 ∷ a7 ∷ [] ≡ b0 ∷ b1 ∷ b2 ∷ b3 ∷ b4 ∷ b5 ∷ b6 ∷ b7 ∷ []
    same e0 e1 e2 e3 e4 e5 e6 e7 = cc

pub take-most : (i : ℕ) (s : List ℕ) → length (take i s) ≤ length s
take-most zero s = omega arith
take-most (suc i) [] = omega arith
take-most (suc i) (c ∷ s) = let h = take-most i s in omega (arith, h)
