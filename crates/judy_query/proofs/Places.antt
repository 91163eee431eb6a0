-- The n-th entry of a join, and the neighbours of a word by other comparisons.
use Rattle.std.proofs.Common.{◌≡◌, ℕ, zero, suc, ◌+◌, ◌-◌, ◌<◌, ◌≤◌, true, false, [], ◌∷◌, ◌++◌, length, None, ap, sym, ◌∙◌, refl, arith}
use Rattle.std.specs.Prelude.{filter, find, nat_lt, nat_le, slice_get}
use Rattle.std.proofs.lemmas.Bool.Decides.{nat_tests}
use Rattle.std.proofs.lemmas.List.Elements.{filter_agree}
use Rattle.judy_model.specs.Contents.{Entries, word_order, max_word, first, next, last, prev, nth, last_of}
use Rattle.judy_model.proofs.lemmas.GapLemmas.{AtMost}
use Rattle.judy_model.proofs.lemmas.WordLemmas.{first-words, next-words, last-words, prev-words, lt-not, le-test}

get-left : (xs ys : Entries ℕ) (m : ℕ) → m < length xs → slice_get (xs ++ ys) m ≡ slice_get xs m
get-left [] ys m h = absurd (omega arith)
get-left (x ∷ xs) ys zero h = refl
get-left (x ∷ xs) ys (suc m) h = get-left xs ys m (omega arith)

get-right : (xs ys : Entries ℕ) (m : ℕ) → slice_get (xs ++ ys) (length xs + m) ≡ slice_get ys m
get-right [] ys m = ap (slice_get ys) (none m)
  where
    none : (m : ℕ) → 0 + m ≡ m
    none m = omega arith
get-right (x ∷ xs) ys m = ap (slice_get (x ∷ xs ++ ys)) (more (length xs) m) ∙ get-right xs ys m
  where
    more : (n m : ℕ) → suc n + m ≡ suc (n + m)
    more n m = omega arith

pub nth-left : (xs ys : Entries ℕ) (n : ℕ) → n ≤ length xs → nth (xs ++ ys) n ≡ nth xs n
nth-left xs ys zero h = refl
nth-left xs ys (suc n) h = get-left xs ys n (omega arith)

pub nth-right : (xs ys : Entries ℕ) (n : ℕ) → length xs < n → nth (xs ++ ys) n ≡ nth ys (n - length xs)
nth-right xs ys n h =
    let m : ℕ = n - length xs - 1 in
    let e : n ≡ suc (length xs + m) = omega arith in
    let d : suc m ≡ n - length xs = omega arith in
    ap (nth (xs ++ ys)) e ∙ get-right xs ys m ∙ ap (nth ys) d

pub nth-none : (n : ℕ) → nth [] n ≡ None
nth-none zero = refl
nth-none (suc n) = refl

-- the next key is the first from the word after
pub next-first : (l : Entries ℕ) (x : ℕ) → next word_order l x ≡ first word_order l (x + 1)
next-first l x = next-words l x ∙ agree l ∙ sym (first-words l (x + 1))
  where
    same : (x k : ℕ) → nat_lt x k ≡ nat_le (x + 1) k
    same x k = grind (arith, nat_tests)

    agree : (l : Entries ℕ) → find (λ e. nat_lt x e.0) l ≡ find (λ e. nat_le (x + 1) e.0) l
    agree [] = refl
    agree (e ∷ l) = rw (same x e.0, agree l) refl

pub next-top : (l : Entries ℕ) → AtMost max_word l → next word_order l max_word ≡ None
next-top l a = next-words l max_word ∙ none l a
  where
    none : (l : Entries ℕ) → AtMost max_word l → find (λ e. nat_lt max_word e.0) l ≡ None
    none [] a = refl
    none (e ∷ l) a = rw (lt-not max_word e.0 a.0) (none l a.1)

-- the one before is the last up to the word before
pub prev-last : (l : Entries ℕ) (x : ℕ) → 0 < x → prev word_order l x ≡ last word_order l (x - 1)
prev-last l x h = prev-words l x ∙ ap last_of (filter_agree (λ e. nat_lt e.0 x) (λ e. nat_le e.0 (x - 1)) (λ e. same x e.0 h) l) ∙ sym (last-words l (x - 1))
  where
    same : (x k : ℕ) → 0 < x → nat_lt k x ≡ nat_le k (x - 1)
    same x k h = elim (nat_lt k x) as (λ t. nat_lt k x ≡ t → t ≡ nat_le k (x - 1))
        [ true ↦ λ t. sym (le-test k (x - 1) (less k x t)) | false ↦ λ t. sym (not_le k (x - 1) (more k x h t)) ] refl
      where
        less : (k x : ℕ) → nat_lt k x ≡ true → k ≤ x - 1
        less k x t = let s : k < x = lt k x t in omega arith
          where
            lt : (k x : ℕ) → nat_lt k x ≡ true → k < x
            lt k x t = grind (arith, nat_tests)

        more : (k x : ℕ) → 0 < x → nat_lt k x ≡ false → x - 1 < k
        more k x h t = let s : x ≤ k = ge k x t in omega arith
          where
            ge : (k x : ℕ) → nat_lt k x ≡ false → x ≤ k
            ge k x t = grind (arith, nat_tests)

        not_le : (a b : ℕ) → b < a → nat_le a b ≡ false
        not_le a b h = grind (arith, nat_tests)

pub prev-zero : (l : Entries ℕ) → prev word_order l 0 ≡ None
prev-zero l = prev-words l 0 ∙ ap last_of (none l)
  where
    none : (l : Entries ℕ) → filter (λ e. nat_lt e.0 0) l ≡ []
    none [] = refl
    none (e ∷ l) = rw (lt-not e.0 0 (omega arith)) (none l)
