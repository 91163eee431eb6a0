-- The bytes of a bucket's key: read one by one and compared with those of another key, and read word by word.
use Rattle.std.proofs.Common.{◌≡◌, ◌≢◌, ◌∙◌, ◌++◌, ◌∷◌, ◌+◌, ◌*◌, ◌/◌, ◌%◌, ◌<◌, ◌≤◌, ◌⊎◌, inl, inr, ℕ, zero, suc, Bool, true, false, List, []}
use Rattle.std.proofs.Common.{take, drop, length, get_or, min, refl, sym, ap, arith, append_assoc}
use Rattle.std.specs.Prelude.{nat_le}
use Rattle.std.proofs.lemmas.Bool.Decides.{nat_tests}
use Rattle.std.specs.Int.{to_be_bytes, w64}
use Rattle.std.specs.Ordering.{nat_cmp, ordering_then}
use Rattle.std.specs.declared.cmp.Ordering.{Ordering}
use Rattle.std.specs.declared.cmp.Ordering.TheVariants.{Less, Equal, Greater}
use Rattle.judy_model.specs.Contents.{string_order}
use Rattle.judy_model.proofs.lemmas.EntryLemmas.{equal, greater, less}
use Rattle.judy_packing.specs.Packing.{byte_of, pack}
use Rattle.judy_packing.proofs.lemmas.Packs.{bytes-back, get_dropped, get_taken}
use Rattle.judy_bytes.specs.Buckets.{SpellsKey, bucket_bytes_of, bytes_from, packed_bucket}
use Rattle.judy_bytes.proofs.Unpacks.{drop-bytes, packed-at}

-- ---- one byte

-- the words of a bucket, from the fourth on, are those of its key
key_word : (ws own : List ℕ) → SpellsKey ws own → (i : ℕ) → i < packed_bucket (length own) → get_or ws (3 + i) 0 ≡ pack (drop (8 * i) own)
key_word ws own s i less =
    sym (get_dropped 3 i ws) ∙ sym (get_taken (packed_bucket (length own)) i (drop 3 ws) less)
    ∙ ap (λ l. get_or l i 0) s.filled ∙ packed-at (packed_bucket (length own)) i own less

pub own-byte : (ws own : List ℕ) → SpellsKey ws own → (j : ℕ) → j < length own → byte_of (get_or ws (3 + j / 8) 0) (j % 8) ≡ get_or own j 0
own-byte ws own s j less =
    ap (λ w. byte_of w (j % 8)) (key_word ws own s (j / 8) (within j (length own) less))
    ∙ bytes-back (drop (8 * (j / 8)) own) (j % 8) (drop-bytes (8 * (j / 8)) own s.bytes) (rest j)
    ∙ get_dropped (8 * (j / 8)) (j % 8) own ∙ ap (λ k. get_or own k 0) (whole j)
  where
    within : (j n : ℕ) → j < n → j / 8 < (n + 7) / 8
    within j n h = omega arith

    rest : (j : ℕ) → j % 8 < 8
    rest j = omega arith

    whole : (j : ℕ) → 8 * (j / 8) + j % 8 ≡ j
    whole j = omega arith

-- ---- keys compared byte by byte

then_rest : (o r : Ordering) → o ≡ Equal → ordering_then o r ≡ r
then_rest o r e = ap (λ p. ordering_then p r) e

then_own : (c d : ℕ) (r : Ordering) → c ≢ d → ordering_then (nat_cmp c d) r ≡ nat_cmp c d
then_own c d r ne = by (nat_cmp c d) refl
  where
    same : (c d : ℕ) → nat_cmp c d ≡ Equal → c ≡ d
    same c d e = grind (arith, nat_tests)

    by : (o : Ordering) → nat_cmp c d ≡ o → ordering_then o r ≡ o
    by Less e = refl
    by Equal e = absurd (ne (same c d e))
    by Greater e = refl

more : (s t : List ℕ) (j : ℕ) → j < length s → j < length t → get_or s j 0 ≡ get_or t j 0
    → string_order (drop j s) (drop j t) ≡ string_order (drop (suc j) s) (drop (suc j) t)
more [] t j h k e = absurd (omega arith)
more (c ∷ s) [] j h k e = absurd (omega arith)
more (c ∷ s) (d ∷ t) zero h k e = then_rest (nat_cmp c d) (string_order s t) (equal c d e)
more (c ∷ s) (d ∷ t) (suc j) h k e = more s t j (omega arith) (omega arith) e

-- equal bytes leave it to the others
pub compare-more : (s t : List ℕ) (j : ℕ) → j < length s → j < length t → get_or s j 0 ≡ get_or t j 0
    → string_order (drop j s) (drop j t) ≡ string_order (drop (j + 1) s) (drop (j + 1) t)
compare-more s t j h k e = more s t j h k e ∙ ap (λ n. string_order (drop n s) (drop n t)) (one j)
  where
    one : (j : ℕ) → suc j ≡ j + 1
    one j = omega arith

-- other bytes decide
pub compare-bytes : (s t : List ℕ) (j : ℕ) → j < length s → j < length t → get_or s j 0 ≢ get_or t j 0
    → string_order (drop j s) (drop j t) ≡ nat_cmp (get_or s j 0) (get_or t j 0)
compare-bytes [] t j h k e = absurd (omega arith)
compare-bytes (c ∷ s) [] j h k e = absurd (omega arith)
compare-bytes (c ∷ s) (d ∷ t) zero h k e = then_own c d (string_order s t) e
compare-bytes (c ∷ s) (d ∷ t) (suc j) h k e = compare-bytes s t j (omega arith) (omega arith) e

-- where one key ends, the lengths decide
pub compare-lengths : (s t : List ℕ) (j : ℕ) → j ≤ length s → j ≤ length t → (length s ≡ j) ⊎ (length t ≡ j)
    → string_order (drop j s) (drop j t) ≡ nat_cmp (length s) (length t)
compare-lengths [] [] zero h k e = refl
compare-lengths [] (d ∷ t) zero h k e = sym (less 0 (length (d ∷ t)) (omega arith))
compare-lengths (c ∷ s) [] zero h k e = sym (greater (length (c ∷ s)) 0 (omega arith))
compare-lengths (c ∷ s) (d ∷ t) zero h k e = elim e [
  | inl n ↦ absurd (omega (arith, n))
  | inr n ↦ absurd (omega (arith, n))
]
compare-lengths [] t (suc j) h k e = absurd (omega arith)
compare-lengths (c ∷ s) [] (suc j) h k e = absurd (omega arith)
compare-lengths (c ∷ s) (d ∷ t) (suc j) h k e =
    compare-lengths s t j (omega arith) (omega arith) (elim e [
      | inl n ↦ inl (omega (arith, n))
      | inr n ↦ inr (omega (arith, n))
    ]) ∙ both (length s) (length t)
  where
    both : (a b : ℕ) → nat_cmp a b ≡ nat_cmp (suc a) (suc b)
    both a b = grind (arith, nat_tests)

-- the place at which the shorter key ends
pub compare-ends : (s t : List ℕ) (j : ℕ) → j ≡ min (length s) (length t) → string_order (drop j s) (drop j t) ≡ nat_cmp (length s) (length t)
compare-ends s t j e = compare-lengths s t j (omega arith) (omega arith) (which (nat_le (length s) (length t)) refl)
  where
    le : (a b : ℕ) → nat_le a b ≡ true → a ≤ b
    le a b h = grind (arith, nat_tests)

    gt : (a b : ℕ) → nat_le a b ≡ false → b < a
    gt a b h = grind (arith, nat_tests)

    which : (u : Bool) → nat_le (length s) (length t) ≡ u → (length s ≡ j) ⊎ (length t ≡ j)
    which true h = let l = le (length s) (length t) h in inl (omega (arith, l))
    which false h = let l = gt (length s) (length t) h in inr (omega (arith, l))

-- ---- the whole key, a word after another

pub word-bytes : (w : ℕ) → to_be_bytes w64 w ≡ bytes_from 8 0 w
word-bytes w = ap (λ b. byte_of w 0 ∷ byte_of w 1 ∷ byte_of w 2 ∷ byte_of w 3 ∷ byte_of w 4 ∷ byte_of w 5 ∷ byte_of w 6 ∷ b ∷ []) (last w)
  where
    last : (w : ℕ) → w % 256 ≡ byte_of w 7
    last w = omega arith

from_more : (xs : List ℕ) (j : ℕ) → j < length xs → bucket_bytes_of (take (suc j) xs) ≡ bucket_bytes_of (take j xs) ++ bytes_from 8 0 (get_or xs j 0)
from_more [] j h = absurd (omega arith)
from_more (x ∷ xs) zero h = refl
from_more (x ∷ xs) (suc j) h =
    ap (λ l. bytes_from 8 0 x ++ l) (from_more xs j (omega arith))
    ∙ sym (append_assoc (bytes_from 8 0 x) (bucket_bytes_of (take j xs)) (bytes_from 8 0 (get_or xs j 0)))

pub bytes-more : (ws : List ℕ) (j : ℕ) → 3 + j < length ws
    → bucket_bytes_of (take (j + 1) (drop 3 ws)) ≡ bucket_bytes_of (take j (drop 3 ws)) ++ to_be_bytes w64 (get_or ws (3 + j) 0)
bytes-more ws j h =
    ap (λ n. bucket_bytes_of (take n (drop 3 ws))) (one j) ∙ from_more (drop 3 ws) j (behind ws j h)
    ∙ ap (λ w. bucket_bytes_of (take j (drop 3 ws)) ++ bytes_from 8 0 w) (get_dropped 3 j ws)
    ∙ ap (λ l. bucket_bytes_of (take j (drop 3 ws)) ++ l) (sym (word-bytes (get_or ws (3 + j) 0)))
  where
    one : (j : ℕ) → j + 1 ≡ suc j
    one j = omega arith

    behind : (ws : List ℕ) (j : ℕ) → 3 + j < length ws → j < length (drop 3 ws)
    behind [] j h = absurd (omega arith)
    behind (a ∷ []) j h = absurd (omega arith)
    behind (a ∷ b ∷ []) j h = absurd (omega arith)
    behind (a ∷ b ∷ c ∷ ws) j h = omega arith

-- so many words have at most 8 times as many bytes
pub bytes-few : (n : ℕ) (xs : List ℕ) → length (bucket_bytes_of (take n xs)) ≤ 8 * n
bytes-few zero xs = omega arith
bytes-few (suc n) [] = omega arith
bytes-few (suc n) (x ∷ xs) = let r = bytes-few n xs in omega (arith, r)
