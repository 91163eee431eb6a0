-- The greatest absent word, and searches from the end of a list.
use Rattle.std.proofs.Common.{◌≡◌, ◌≢◌, ℕ, zero, suc, ◌+◌, ◌-◌, ◌<◌, Bool, true, false, List, [], ◌∷◌, ◌++◌, length, refl, sym}
use Rattle.std.proofs.Common.{◌∙◌, ap, arith, Some, None, get_or, drop, take, ◌≤◌, sub-one, eq-eqb, append-nil}
use Rattle.std.specs.Prelude.{filter, find, reverse}
use Rattle.std.proofs.lemmas.List.{reverse-append}
use Rattle.std.proofs.lemmas.List.Elements.{filter-append}
use Rattle.std.proofs.lemmas.Bool.{ne_eqb}
use Rattle.judy_model.specs.Contents.{Entries, last_of}
use Rattle.judy_model.specs.Gaps.{start_of_run, last_empty, prev_empty}
use Rattle.judy_reference.proofs.QueryLemmas.{find-here, last-here, last-skip, none_left}

-- a filtered list with one more entry at the end
pub reverse-keeps : {A : Type 0} (p : A → Bool) (xs ys : List A) (x : A) → ys ≡ xs ++ x ∷ [] → p x ≡ true → reverse (filter p ys) ≡ x ∷ reverse (filter p xs)
reverse-keeps p xs ys x is e = rw (is, filter-append p xs (x ∷ []), e) (reverse-append (filter p xs) (x ∷ []))

pub reverse-skips : {A : Type 0} (p : A → Bool) (xs ys : List A) (x : A) → ys ≡ xs ++ x ∷ [] → p x ≡ false → reverse (filter p ys) ≡ reverse (filter p xs)
reverse-skips p xs ys x is e = rw (is, filter-append p xs (x ∷ []), e, append-nil) refl

pub reverse-none : {A : Type 0} (p : A → Bool) (xs : List A) → length xs ≡ 0 → reverse (filter p xs) ≡ []
reverse-none p [] h = refl
reverse-none p (x ∷ xs) h = absurd (omega arith)

-- a downward run stops at a different key, and at 0
pub start-stops : (x : ℕ) (e : ℕ × ℕ) (es : Entries ℕ) → e.0 ≢ x → start_of_run x (e ∷ es) ≡ Some x
start-stops zero e es h = rw (ne_eqb e.0 zero h) refl
start-stops (suc x) e es h = rw (ne_eqb e.0 (suc x) h) refl

pub start-none : (x : ℕ) (e : ℕ × ℕ) (es : Entries ℕ) → e.0 ≡ x → x ≡ 0 → start_of_run x (e ∷ es) ≡ None
start-none zero e es h none = rw (eq-eqb e.0 0 h) refl
start-none (suc x) e es h none = absurd (omega arith)

pub start-goes : (x : ℕ) (e : ℕ × ℕ) (es : Entries ℕ) → e.0 ≡ x → x ≢ 0 → start_of_run x (e ∷ es) ≡ start_of_run (x - 1) es
start-goes zero e es h above = absurd (omega arith)
start-goes (suc x) e es h above = rw (eq-eqb e.0 (suc x) h, sub-one) refl

-- below a word that is not 0
pub prev_empty-below : (l : Entries ℕ) (x : ℕ) → 0 < x → prev_empty l x ≡ last_empty l (x - 1)
prev_empty-below l zero h = absurd (omega arith)
prev_empty-below l (suc x) h = rw sub-one refl

-- the entry of a loop at a place, if it passes the test and if it fails
pub find-at : {A : Type 0} (p : A → Bool) (xs : List A) (i : ℕ) (x : A) → i < length xs → x ≡ get_or xs i x → p x ≡ true → Some x ≡ find p (drop i xs)
find-at p xs i x h is e = ap Some is ∙ sym (find-here p xs i x h (ap p (sym is) ∙ e))

pub last-at : {A : Type 0} (p : A → Bool) (xs : List A) (i : ℕ) (x : A) → i < length xs → x ≡ get_or xs i x → p x ≡ true
    → Some x ≡ last_of (filter p (take (i + 1) xs))
last-at p xs i x h is e = ap Some is ∙ sym (last-here p xs i x h (ap p (sym is) ∙ e))

pub last-past : {A : Type 0} (p : A → Bool) (xs : List A) (i : ℕ) (x : A) → i < length xs → x ≡ get_or xs i x → p x ≡ false
    → last_of (filter p (take i xs)) ≡ last_of (filter p (take (i + 1) xs))
last-past p xs i x h is e = sym (last-skip p xs i x h (ap p (sym is) ∙ e))

-- nothing is found after the end
pub find-end : {A : Type 0} (p : A → Bool) (xs : List A) (i : ℕ) → length xs ≤ i → None ≡ find p (drop i xs)
find-end p xs i h = ap (find p) (sym (none_left xs i h))
