-- Packing: unpacking gives the bytes back, and words compare like their strings.
use Rattle.std.proofs.Common.{◌≡◌, ℕ, zero, suc, ◌+◌, ◌*◌, ◌/◌, ◌%◌, ◌^◌, ◌<◌, ◌≤◌, true, false, cond, ◌==◌, nat_lt, List, []}
use Rattle.std.proofs.Common.{◌∷◌, ◌++◌, take, drop, length, get_or, add-one, ap, sym, ◌∙◌, refl, subst, arith}
use native.Mathlib.Nat.{mul_comm, mul-suc, mul-zero, pow-suc, mul-one, mul_assoc, pow-le-pow_right, mul-le-mul_right}
use Rattle.std.proofs.lemmas.Bool.Decides.{nat_tests}
use Rattle.std.proofs.lemmas.Nat.{div-mul-add, mod-mul-add, pow-add}
use Rattle.std.proofs.Math.Nat.{zero-add, suc-add, mod-eq_of_lt, add-mul-div_left, add-mul-mod_self_right}
use Rattle.std.proofs.lemmas.List.{length-take-le}
use Rattle.std.specs.declared.cmp.Ordering.{Ordering}
use Rattle.std.specs.declared.cmp.Ordering.TheVariants.{Less, Equal}
use Rattle.std.specs.Ordering.{nat_cmp, ordering_then}
use Rattle.std.specs.Cmp.Lexicographic.{slice_cmp}
use Rattle.judy_packing.specs.Packing.{pack_at, bytes_at, pack, word_bytes, byte_of, is_last, AreBytes, IsString}

suc_times : (a p : ℕ) → suc a * p ≡ a * p + p
suc_times a p = mul_comm (suc a) p ∙ mul-suc p a ∙ ap (λ x. x + p) (mul_comm p a)

mul_mono_le : (a b p : ℕ) → a ≤ b → a * p ≤ b * p
mul_mono_le a b p h = mul-le-mul_right p h

pow_more : (n : ℕ) → 256 ^ suc n ≡ 256 * 256 ^ n
pow_more n = pow-suc 256 n ∙ mul_comm (256 ^ n) 256

pub pow_some : (n : ℕ) → 0 < 256 ^ n
pow_some zero = omega arith
pow_some (suc n) = let h = pow_some n in let e = pow_more n in omega arith

-- a digit and what is below it
below : (c p x : ℕ) → c < 256 → x < p → c * p + x < 256 * p
below c p x h k = let m : suc c * p ≤ 256 * p = mul_mono_le (suc c) 256 p (omega arith) in omega (arith, suc_times c p)

pub pack_below : (n : ℕ) (s : List ℕ) → IsString s → pack_at n s < 256 ^ n
unfolding pack_at
pack_below zero s h = omega arith
pack_below (suc n) [] h = pow_some (suc n)
pack_below (suc n) (c ∷ s) h = subst (λ x. c * 256 ^ n + pack_at n s < x) (sym (pow_more n)) (below c (256 ^ n) (pack_at n s) h.1 (pack_below n s h.2))

digit_test : (c : ℕ) → 0 < c → (c == 0) ≡ false
digit_test c h = grind (arith, nat_tests)

pub bytes-pack : (n : ℕ) (s : List ℕ) → IsString s → bytes_at n (pack_at n s) ≡ take n s
unfolding pack_at bytes_at
bytes-pack zero s h = refl
bytes-pack (suc n) [] h = let z : 0 * 256 ^ n + 0 ≡ 0 = omega (arith, mul_comm 0 (256 ^ n), mul-zero (256 ^ n)) in
    let e : 0 / 256 ^ n ≡ 0 = ap (λ x. x / 256 ^ n) (sym z) ∙ div-mul-add 0 (256 ^ n) 0 (pow_some n) in
    ap (λ d. cond (d == 0) [] (d ∷ bytes_at n (0 % 256 ^ n))) e
bytes-pack (suc n) (c ∷ s) h =
    let d : (c * 256 ^ n + pack_at n s) / 256 ^ n ≡ c = div-mul-add c (256 ^ n) (pack_at n s) (pack_below n s h.2) in
    let m : (c * 256 ^ n + pack_at n s) % 256 ^ n ≡ pack_at n s = mod-mul-add c (256 ^ n) (pack_at n s) (pack_below n s h.2) in
    ap (λ x. cond (x == 0) [] (x ∷ bytes_at n ((c * 256 ^ n + pack_at n s) % 256 ^ n))) d
    ∙ ap (λ t. cond t [] (c ∷ bytes_at n ((c * 256 ^ n + pack_at n s) % 256 ^ n))) (digit_test c h.0)
    ∙ ap (λ x. c ∷ bytes_at n x) m ∙ ap (λ l. c ∷ l) (bytes-pack n s h.2)

pub pack-take : (n : ℕ) (s : List ℕ) → pack_at n (take n s) ≡ pack_at n s
unfolding pack_at
pack-take zero s = refl
pack-take (suc n) [] = refl
pack-take (suc n) (c ∷ s) = ap (λ x. c * 256 ^ n + x) (pack-take n s)

-- the first digit decides, and then the rest
pub digits : (c d p x y : ℕ) → x < p → y < p → c * p + x < d * p + y → d < c → ⊥
digits c d p x y h k l m = let n : suc d * p ≤ c * p = mul_mono_le (suc d) c p (omega arith) in omega (arith, suc_times d p)

pub rest_below : (c d p x y : ℕ) → c * p + x < d * p + y → c ≡ d → x < y
rest_below c d p x y h e = let f : c * p ≡ d * p = ap (λ z. z * p) e in omega arith

at_most_equal : (c d : ℕ) → (d < c → ⊥) → nat_lt c d ≡ false → c ≡ d
at_most_equal c d h e = elim (nat_lt d c) as (λ t. nat_lt d c ≡ t → c ≡ d) [
  | true ↦ λ f. let g : d < c = grind (arith, nat_tests) in absurd (h g)
  | false ↦ λ f. grind (arith, nat_tests)
] refl

pub by_cmp : (c d : ℕ) (r : Ordering) → (d < c → ⊥) → (c ≡ d → r ≡ Less) → ordering_then (nat_cmp c d) r ≡ Less
by_cmp c d r h k = elim (nat_lt c d) as (λ t. nat_lt c d ≡ t → ordering_then (nat_cmp c d) r ≡ Less) [
  | true ↦ λ e. let f : nat_cmp c d ≡ Less = grind (arith, nat_tests) in ap (λ o. ordering_then o r) f
  | false ↦ λ e. let i : c ≡ d = at_most_equal c d h e in let f : nat_cmp c d ≡ Equal = grind (arith, nat_tests) in ap (λ o. ordering_then o r) f ∙ k i
] refl

pub pack-order : (n : ℕ) (s t : List ℕ) → IsString s → IsString t → pack_at n s < pack_at n t → slice_cmp nat_cmp s t ≡ Less
unfolding pack_at
pack-order zero s t a b h = absurd (omega arith)
pack-order (suc n) [] [] a b h = absurd (omega arith)
pack-order (suc n) [] (d ∷ t) a b h = refl
pack-order (suc n) (c ∷ s) [] a b h = absurd (omega arith)
pack-order (suc n) (c ∷ s) (d ∷ t) a b h =
    by_cmp c d (slice_cmp nat_cmp s t) (digits c d (256 ^ n) (pack_at n s) (pack_at n t) (pack_below n s a.2) (pack_below n t b.2) h)
    (λ e. pack-order n s t a.2 b.2 (rest_below c d (256 ^ n) (pack_at n s) (pack_at n t) h e))

long-take : (n : ℕ) (s : List ℕ) → length (take n s) < n → take n s ≡ s
long-take zero s h = absurd (omega arith)
long-take (suc n) [] h = refl
long-take (suc n) (c ∷ s) h = ap (λ l. c ∷ l) (long-take n s (omega arith))

pub short-take : (n : ℕ) (s : List ℕ) → length (take n s) < n → take n s ≡ s
short-take = long-take

pub take-drop : (n : ℕ) (s : List ℕ) → take n s ++ drop n s ≡ s
take-drop zero s = refl
take-drop (suc n) [] = refl
take-drop (suc n) (c ∷ s) = ap (λ l. c ∷ l) (take-drop n s)

pub pack-step : (n : ℕ) (s : List ℕ) → pack_at (suc n) s ≡ pack_at n s * 256 + get_or s n 0
unfolding pack_at
pack-step zero [] = refl
pack-step zero (c ∷ s) = let e : c * 1 ≡ c = mul-one c in omega (arith, e)
pack-step (suc n) [] = refl
pack-step (suc n) (c ∷ s) =
    let e : pack_at (suc n) s ≡ pack_at n s * 256 + get_or s n 0 = pack-step n s in
    let f : c * 256 ^ suc n ≡ (c * 256 ^ n) * 256 = ap (λ x. c * x) (pow-suc 256 n) ∙ sym (mul_assoc c (256 ^ n) 256) in
    ap (λ x. c * 256 ^ suc n + x) e ∙ omega (arith, f)

pub pack-more : (s : List ℕ) (i w c : ℕ) → w ≡ pack_at i s → c ≡ get_or s i 0 → w * 256 + c ≡ pack_at (i + 1) s
pack-more s i w c h k = ap (λ x. x * 256 + c) h ∙ ap (λ x. pack_at i s * 256 + x) k ∙ sym (ap (λ n. pack_at n s) (add-one i) ∙ pack-step i s)

pub room : (i w : ℕ) → w < 256 ^ i → i < 8 → w < 72057594037927936
room i w h k = let e : 256 ^ i ≤ 256 ^ 7 = pow-le-pow_right {n = 256} (omega arith) {i = i} {j = 7} (omega arith) in omega arith

pub room-more : (i w c : ℕ) → w < 256 ^ i → c < 256 → w * 256 + c < 256 ^ (i + 1)
room-more i w c h k = let e : 256 ^ (i + 1) ≡ 256 ^ i * 256 = ap (λ n. 256 ^ n) (add-one i) ∙ pow-suc 256 i in omega arith

pub pack-long : (m n : ℕ) (s : List ℕ) → n ≤ m → pack_at n (take m s) ≡ pack_at n s
unfolding pack_at
pack-long m zero s h = refl
pack-long zero (suc n) s h = absurd (omega arith)
pack-long (suc m) (suc n) [] h = refl
pack-long (suc m) (suc n) (c ∷ s) h = ap (λ x. c * 256 ^ n + x) (pack-long m n s (omega arith))

-- a string shorter than a word has a last word
pub last-word : (s : List ℕ) → IsString s → length s < 8 → is_last (pack s) ≡ true
last-word s h k = let e : length (word_bytes (pack s)) ≡ length (take 8 s) = ap length (bytes-pack 8 s h) in lt_test
    (length (word_bytes (pack s))) 8 (omega (arith, e, take_at_most 8 s))
  where
    take_at_most : (n : ℕ) (s : List ℕ) → length (take n s) ≤ length s
    take_at_most zero s = omega arith
    take_at_most (suc n) [] = omega arith
    take_at_most (suc n) (c ∷ s) = let h = take_at_most n s in omega arith

    lt_test : (a b : ℕ) → a < b → nat_lt a b ≡ true
    lt_test a b h = grind (arith, nat_tests)

pub more-word : (s : List ℕ) → IsString s → 8 ≤ length s → is_last (pack s) ≡ false
more-word s h k = let e : length (word_bytes (pack s)) ≡ 8 = ap length (bytes-pack 8 s h) ∙ length-take-le 8 s k in ge_test
    (length (word_bytes (pack s))) 8 (omega arith)
  where
    ge_test : (a b : ℕ) → b ≤ a → nat_lt a b ≡ false
    ge_test a b h = grind (arith, nat_tests)

-- ---- single bytes

pack_small : (n : ℕ) (s : List ℕ) → AreBytes s → pack_at n s < 256 ^ n
unfolding pack_at
pack_small zero s h = omega arith
pack_small (suc n) [] h = pow_some (suc n)
pack_small (suc n) (c ∷ s) h = subst (λ x. c * 256 ^ n + pack_at n s < x) (sym (pow_more n)) (below c (256 ^ n) (pack_at n s) h.0 (pack_small n s h.1))

-- a digit that stands above others
digit : (c p x : ℕ) → x < p → c < 256 → (c * p + x) / p % 256 ≡ c
digit c p x h k = ap (λ y. y % 256) (div-mul-add c p x h) ∙ mod-eq_of_lt k

-- what stands above does not count
under : (c q p x : ℕ) → 0 < p → (c * (q * 256 * p) + x) / p % 256 ≡ x / p % 256
under c q p x h =
    let e : c * (q * 256 * p) + x ≡ x + p * (c * q * 256) = omega (
      arith,
      mul_assoc q 256 p,
      mul_assoc c (q * 256) p,
      mul_assoc c
          q 256,
      mul_comm (c * q * 256) p,
    ) in
    ap (λ y. y / p % 256) e ∙ ap (λ y. y % 256) (add-mul-div_left x (c * q * 256) h) ∙ add-mul-mod_self_right (x / p) (c * q) 256

zero_digit : (m : ℕ) → 0 / 256 ^ m % 256 ≡ 0
zero_digit m = let z : 0 * 256 ^ m + 0 ≡ 0 = omega (arith, mul_comm 0 (256 ^ m), mul-zero (256 ^ m)) in
    ap (λ x. x / 256 ^ m % 256) (sym z) ∙ digit 0 (256 ^ m) 0 (pow_some m) (omega arith)

powers : (i m : ℕ) → 256 ^ (i + suc m) ≡ 256 ^ i * 256 * 256 ^ m
powers i m = pow-add 256 i (suc m) ∙ ap (λ x. 256 ^ i * x) (pow_more m) ∙ sym (mul_assoc (256 ^ i) 256 (256 ^ m))

digit-back : (i m : ℕ) (s : List ℕ) → AreBytes s → pack_at (i + suc m) s / 256 ^ m % 256 ≡ get_or s i 0
unfolding pack_at
digit-back zero m [] h = ap (λ n. pack_at n [] / 256 ^ m % 256) (zero-add (suc m)) ∙ zero_digit m
digit-back zero m (c ∷ s) h = ap (λ n. pack_at n (c ∷ s) / 256 ^ m % 256) (zero-add (suc m)) ∙ digit c (256 ^ m) (pack_at m s) (pack_small m s h.1) h.0
digit-back (suc i) m [] h = ap (λ n. pack_at n [] / 256 ^ m % 256) (suc-add i (suc m)) ∙ zero_digit m
digit-back (suc i) m (c ∷ s) h =
    ap (λ n. pack_at n (c ∷ s) / 256 ^ m % 256) (suc-add i (suc m))
    ∙ ap (λ q. (c * q + pack_at (i + suc m) s) / 256 ^ m % 256) (powers i m)
    ∙ under c (256 ^ i) (256 ^ m) (pack_at (i + suc m) s) (pow_some m)
    ∙ digit-back i m s h.1

pub bytes-back : (s : List ℕ) (i : ℕ) → AreBytes s → i < 8 → byte_of (pack s) i ≡ get_or s i 0
bytes-back s zero h k = digit-back 0 7 s h
bytes-back s (suc zero) h k = digit-back 1 6 s h
bytes-back s (suc (suc zero)) h k = digit-back 2 5 s h
bytes-back s (suc (suc (suc zero))) h k = digit-back 3 4 s h
bytes-back s (suc (suc (suc (suc zero)))) h k = digit-back 4 3 s h
bytes-back s (suc (suc (suc (suc (suc zero))))) h k = digit-back 5 2 s h
bytes-back s (suc (suc (suc (suc (suc (suc zero)))))) h k = digit-back 6 1 s h
bytes-back s (suc (suc (suc (suc (suc (suc (suc zero))))))) h k = digit-back 7 0 s h
bytes-back s (suc (suc (suc (suc (suc (suc (suc (suc i)))))))) h k = absurd (omega arith)

-- ---- the words of bytes

-- places of a list without its first items, and of its first items
pub drop_more : (m n : ℕ) (s : List ℕ) → drop m (drop n s) ≡ drop (n + m) s
drop_more m zero s = let e : 0 + m ≡ m = omega arith in ap (λ k. drop k s) (sym e)
drop_more zero (suc n) [] = let e : suc n + 0 ≡ suc n = omega arith in ap (λ k. drop {A = ℕ} k []) (sym e)
drop_more (suc m) (suc n) [] = let e : suc n + suc m ≡ suc (n + suc m) = omega arith in ap (λ k. drop {A = ℕ} k []) (sym e)
drop_more m (suc n) (x ∷ s) = let e : suc n + m ≡ suc (n + m) = omega arith in drop_more m n s ∙ ap (λ k. drop k (x ∷ s)) (sym e)

pub get_taken : (n j : ℕ) (ws : List ℕ) → j < n → get_or (take n ws) j 0 ≡ get_or ws j 0
get_taken zero j ws h = absurd (omega arith)
get_taken (suc n) j [] h = refl
get_taken (suc n) zero (w ∷ ws) h = refl
get_taken (suc n) (suc j) (w ∷ ws) h = get_taken n j ws (omega arith)

pub get_dropped : (m j : ℕ) (ws : List ℕ) → get_or (drop m ws) j 0 ≡ get_or ws (m + j) 0
get_dropped zero j ws = let e : 0 + j ≡ j = omega arith in ap (λ k. get_or ws k 0) (sym e)
get_dropped (suc m) j [] = let e : suc m + j ≡ suc (m + j) = omega arith in ap (λ k. get_or {A = ℕ} [] k 0) (sym e)
get_dropped (suc m) j (w ∷ ws) = let e : suc m + j ≡ suc (m + j) = omega arith in get_dropped m j ws ∙ ap (λ k. get_or (w ∷ ws) k 0) (sym e)
