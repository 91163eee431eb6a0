-- The words of a key spell it.
use Rattle.std.proofs.Common.{◌≡◌, ℕ, zero, suc, ◌+◌, ◌*◌, ◌-◌, ◌/◌, ◌<◌, ◌≤◌, true, false, nat_le, List, [], ◌∷◌, ◌++◌, take}
use Rattle.std.proofs.Common.{drop, length, get_or, ap, sym, ◌∙◌, refl, arith, length-drop}
use Rattle.std.proofs.lemmas.Bool.Decides.{nat_tests}
use Rattle.judy_packing.specs.Packing.{pack, byte_of, AreBytes, packed}
use Rattle.judy_packing.proofs.lemmas.Packs.{bytes-back, take-drop, drop_more}
use Rattle.judy_bytes.specs.Buckets.{bytes_from, bucket_bytes_of, packed_bucket}

-- bytes that are those of a string, as far as it goes
from_bytes : (n i w : ℕ) (s : List ℕ) (m : ℕ) → ((j : ℕ) → j < n → byte_of w (i + j) ≡ get_or s j 0) → m ≤ length s → m ≤ n
    → take m (bytes_from n i w) ≡ take m s
from_bytes n i w s zero at h k = refl
from_bytes zero i w s (suc m) at h k = absurd (omega arith)
from_bytes (suc n) i w [] (suc m) at h k = absurd (omega arith)
from_bytes (suc n) i w (c ∷ s) (suc m) at h k =
    ap (λ x. x ∷ take m (bytes_from n (suc i) w)) (ap (byte_of w) (plus_zero i) ∙ at 0 (omega arith))
    ∙ ap (λ l. c ∷ l) (from_bytes n (suc i) w s m (λ j less. ap (byte_of w) (plus_suc i j) ∙ at (suc j) (omega arith)) (omega arith) (omega arith))
  where
    plus_zero : (i : ℕ) → i ≡ i + 0
    plus_zero i = omega arith

    plus_suc : (i j : ℕ) → suc i + j ≡ i + suc j
    plus_suc i j = omega arith

-- the first bytes of a word that was packed
word-back : (s : List ℕ) (m : ℕ) → AreBytes s → m ≤ length s → m ≤ 8 → take m (bytes_from 8 0 (pack s)) ≡ take m s
word-back s m is h k = from_bytes 8 0 (pack s) s m (λ j less. ap (byte_of (pack s)) (zero_plus j) ∙ bytes-back s j is less) h k
  where
    zero_plus : (j : ℕ) → 0 + j ≡ j
    zero_plus j = omega arith

count_from : (n i w : ℕ) → length (bytes_from n i w) ≡ n
count_from zero i w = refl
count_from (suc n) i w = ap suc (count_from n (suc i) w)

-- a stretch of a list of two
take_left : (m : ℕ) (xs ys : List ℕ) → m ≤ length xs → take m (xs ++ ys) ≡ take m xs
take_left zero xs ys h = refl
take_left (suc m) [] ys h = absurd (omega arith)
take_left (suc m) (x ∷ xs) ys h = ap (λ l. x ∷ l) (take_left m xs ys (omega arith))

take_right : (m k : ℕ) (xs ys : List ℕ) → length xs ≡ k → k ≤ m → take m (xs ++ ys) ≡ take k xs ++ take (m - k) ys
take_right m zero [] ys h l = ap (λ n. take n ys) (minus_zero m)
  where
    minus_zero : (m : ℕ) → m ≡ m - 0
    minus_zero m = omega arith
take_right m zero (x ∷ xs) ys h l = absurd (omega arith)
take_right m (suc k) [] ys h l = absurd (omega arith)
take_right zero (suc k) (x ∷ xs) ys h l = absurd (omega arith)
take_right (suc m) (suc k) (x ∷ xs) ys h l = ap (λ l. x ∷ l) (take_right m k xs ys (omega arith) (omega arith)
    ∙ ap (λ n. take k xs ++ take n ys) (minus_suc m k))
  where
    minus_suc : (m k : ℕ) → m - k ≡ suc m - suc k
    minus_suc m k = omega arith

pub drop-bytes : (n : ℕ) (s : List ℕ) → AreBytes s → AreBytes (drop n s)
drop-bytes zero s h = h
drop-bytes (suc n) [] h = h
drop-bytes (suc n) (c ∷ s) h = drop-bytes n s h.1

take_all : (s : List ℕ) (n : ℕ) → length s ≡ n → take n s ≡ s
take_all [] zero h = refl
take_all [] (suc n) h = absurd (omega arith)
take_all (c ∷ s) zero h = absurd (omega arith)
take_all (c ∷ s) (suc n) h = ap (λ l. c ∷ l) (take_all s n (omega arith))

-- the words of a key spell it
pub bytes-packed : (n m : ℕ) (s : List ℕ) → AreBytes s → length s ≡ m → m ≤ 8 * n → take m (bucket_bytes_of (packed n s)) ≡ s
bytes-packed zero zero [] is h k = refl
bytes-packed zero zero (c ∷ s) is h k = absurd (omega arith)
bytes-packed zero (suc m) s is h k = absurd (omega arith)
bytes-packed (suc n) m s is h k =
    let xs : List ℕ = bytes_from 8 0 (pack s) in
    let size : length xs ≡ 8 = count_from 8 0 (pack s) in
    elim (nat_le m 8) as (λ t. nat_le m 8 ≡ t → take m (xs ++ bucket_bytes_of (packed n (drop 8 s))) ≡ s) [
      | true ↦ λ e. let l : m ≤ 8 = le m e in take_left m xs _ (omega arith) ∙ word-back s m is (omega arith) l ∙ take_all s m h
      | false ↦ λ e. let l : 8 < m = gt m e in
          take_right m 8 xs _ size (omega arith)
          ∙ ap (λ l. l ++ take (m - 8) (bucket_bytes_of (packed n (drop 8 s)))) (word-back s 8 is (omega arith) (omega arith))
          ∙ ap (λ l. take 8 s ++ l) (bytes-packed n (m - 8) (drop 8 s) (drop-bytes 8 s is) (length-drop 8 s ∙ ap (λ x. x - 8) h) (omega arith))
          ∙ take-drop 8 s
    ] refl
  where
    le : (m : ℕ) → nat_le m 8 ≡ true → m ≤ 8
    le m e = grind (arith, nat_tests)

    gt : (m : ℕ) → nat_le m 8 ≡ false → 8 < m
    gt m e = grind (arith, nat_tests)

-- so keys of one length with the same words are one key
pub same-words : (s t : List ℕ) → AreBytes s → AreBytes t → length s ≡ length t → packed (packed_bucket (length t)) s ≡ packed
    (packed_bucket (length t)) t → s ≡ t
same-words s t is it h e =
    sym (bytes-packed (packed_bucket (length t)) (length t) s is h (enough (length t)))
    ∙ ap (λ l. take (length t) (bucket_bytes_of l)) e ∙ bytes-packed (packed_bucket (length t)) (length t) t it refl (enough (length t))
  where
    enough : (n : ℕ) → n ≤ 8 * ((n + 7) / 8)
    enough n = omega arith

-- the j-th word of a key
pub packed-at : (n j : ℕ) (s : List ℕ) → j < n → get_or (packed n s) j 0 ≡ pack (drop (8 * j) s)
packed-at zero j s h = absurd (omega arith)
packed-at (suc n) zero s h = refl
packed-at (suc n) (suc j) s h = packed-at n j (drop 8 s) (omega arith) ∙ ap pack (drop_more (8 * j) 8 s ∙ ap (λ k. drop k s) (eight j))
  where
    eight : (j : ℕ) → 8 + 8 * j ≡ 8 * suc j
    eight j = omega arith

-- from places to the list
pub as-packed : (n : ℕ) (ws s : List ℕ) → n ≤ length ws → ((k : ℕ) → k < n → get_or ws k 0 ≡ pack (drop (8 * k) s)) → take n ws ≡ packed n s
as-packed zero ws s h at = refl
as-packed (suc n) [] s h at = absurd (omega arith)
as-packed (suc n) (w ∷ ws) s h at =
    ap (λ x. x ∷ take n ws) (at 0 (omega arith))
    ∙ ap (λ l. pack s ∷ l)
    (as-packed n ws (drop 8 s) (omega arith) (λ k less. at (suc k) (omega arith)
    ∙ ap pack (ap (λ m. drop m s) (eight k) ∙ sym (drop_more (8 * k) 8 s))))
  where
    eight : (k : ℕ) → 8 * suc k ≡ 8 + 8 * k
    eight k = omega arith
