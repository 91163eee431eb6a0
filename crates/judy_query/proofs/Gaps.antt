-- Gaps in a join of children: a word is absent, and those from another on up to it are present.
use Rattle.std.proofs.Common.{◌≡◌, ◌≢◌, ℕ, ◌+◌, ◌<◌, ◌≤◌, Bool, true, false, cond, ◌==◌, [], ◌∷◌, length, Option}
use Rattle.std.proofs.Common.{Some, None, is_some, ap, sym, ◌∙◌, refl, subst, arith, eqb-true}
use Rattle.std.specs.Prelude.{filter, nat_lt, nat_le}
use Rattle.std.specs.Ordering.{eq_by_cmp}
use Rattle.std.specs.FinMap.{find, nat_cmp-IsAntisymmetric}
use Rattle.std.specs.FinMap.Entries.{find-where_key}
use Rattle.std.proofs.lemmas.Bool.{eqb-false, false≢true as not_true}
use Rattle.std.proofs.lemmas.Bool.Decides.{nat_tests}
use Rattle.judy_model.specs.Contents.{Entries, IsWordArray, word_order, max_word, has_key}
use Rattle.judy_model.specs.Gaps.{end_of_run, first_empty}
use Rattle.judy_model.proofs.lemmas.GapLemmas.{AtLeast, AtMost, Rising, rising_of, at_most_kept, rising_kept, weaker, absent_below, eq-not}
use Rattle.judy_model.proofs.lemmas.WordLemmas.{le-test, le-not, end_of_run_from}
use Rattle.judy_model.proofs.lemmas.TestLemmas.{and_right, and_left}
use Rattle.judy_tree.specs.Each.{Each}
use Rattle.judy_tree.proofs.lemmas.Joins.{other_word}
use Rattle.std.specs.List.{list_all}

-- ---- a gap of entries: the first absent word from x on

pub record Gap (l : Entries ℕ) (x e : ℕ) : Type 0 where
  pub from : x ≤ e
  pub absent : has_key word_order l e ≡ false
  pub run : (y : ℕ) → x ≤ y → y < e → has_key word_order l y ≡ true

-- there is one
pub gap-one : (l : Entries ℕ) (x e d : ℕ) → Gap l x e → Gap l x d → e ≡ d
gap-one l x e d g h = by (nat_lt e d) (nat_lt d e) refl refl
  where
    less : (a b : ℕ) → nat_lt a b ≡ true → a < b
    less a b h = grind (arith, nat_tests)

    more : (a b : ℕ) → nat_lt a b ≡ false → b ≤ a
    more a b h = grind (arith, nat_tests)

    by : (s t : Bool) → nat_lt e d ≡ s → nat_lt d e ≡ t → e ≡ d
    by true t i j = absurd (not_true (sym g.absent ∙ h.run e g.from (less e d i)))
    by false true i j = absurd (not_true (sym h.absent ∙ g.run d h.from (less d e j)))
    by false false i j = let m = more e d i in let n = more d e j in omega arith

-- where a run of entries ends
run-absent : (x : ℕ) (es : Entries ℕ) → AtLeast x es → Rising es → has_key word_order es (end_of_run x es) ≡ false
run-absent x [] h r = refl
run-absent x (e ∷ es) h r = by (e.0 == x) refl (λ a. run-absent (x + 1) es a r.1)
  where
    by : (t : Bool) → (e.0 == x) ≡ t → (AtLeast (x + 1) es → has_key word_order es (end_of_run (x + 1) es) ≡ false)
        → has_key word_order (e ∷ es) (cond t (end_of_run (x + 1) es) x) ≡ false
    by true is rest =
        let same : e.0 ≡ x = eqb-true e.0 x is in
        let over : x + 1 ≤ end_of_run (x + 1) es = end_of_run_from (x + 1) es in
        rw (eq-not (end_of_run (x + 1) es) e.0 (λ s. absurd (omega (arith, s, same, over)))) (rest (subst (λ y. AtLeast (y + 1) es) same r.0))
    by false is rest =
        let over : x + 1 ≤ e.0 = let f = h.0 in let n = eqb-false e.0 x is in strict x e.0 f (λ q. n (sym q)) in
        absent_below x (e ∷ es) (over, weaker (x + 1) (e.0 + 1) es (omega arith) r.0)
      where
        strict : (a m : ℕ) → a ≤ m → a ≢ m → a + 1 ≤ m
        strict a m i n = grind arith

run-there : (x : ℕ) (es : Entries ℕ) (y : ℕ) → x ≤ y → y < end_of_run x es → has_key word_order es y ≡ true
run-there x [] y h k = absurd (omega arith)
run-there x (e ∷ es) y h k = by (e.0 == x) refl (λ j i. run-there (x + 1) es y j i) k
  where
    by : (t : Bool) → (e.0 == x) ≡ t → (x + 1 ≤ y → y < end_of_run (x + 1) es → has_key word_order es y ≡ true)
        → y < cond t (end_of_run (x + 1) es) x → has_key word_order (e ∷ es) y ≡ true
    by true is rest k =
        let same : e.0 ≡ x = eqb-true e.0 x is in
        elim (eq_by_cmp word_order y e.0) as (λ t. eq_by_cmp word_order y e.0 ≡ t → is_some (cond t (Some e.1) (find word_order y es)) ≡ true) [
          | true ↦ λ t. refl
          | false ↦ λ t. rest (let n = other_word y e.0 t in strict x y h (λ q. n (sym q ∙ sym same))) k
        ] refl
      where
        strict : (a m : ℕ) → a ≤ m → a ≢ m → a + 1 ≤ m
        strict a m i n = grind arith
    by false is rest k = absurd (omega arith)

-- a key from x on is looked up among those from x on
from-key : (l : Entries ℕ) (x n : ℕ) → x ≤ n → has_key word_order (filter (λ e. nat_le x e.0) l) n ≡ has_key word_order l n
from-key l x n h =
    ap is_some (find-where_key word_order (λ k. nat_le x k) n (λ y e. ap (λ k. nat_le x k) (sym (nat_cmp-IsAntisymmetric n y e)))
    l ∙ ap (λ t. cond t (find word_order n l) None) (le-test x n h))

from-self : (x : ℕ) (es : Entries ℕ) → AtLeast x (filter (λ e. nat_le x e.0) es)
from-self x [] = tt
from-self x (e ∷ es) = elim (nat_le x e.0) as
    (λ t. nat_le x e.0 ≡ t → AtLeast x (cond t (e ∷ filter (λ e. nat_le x e.0) es) (filter (λ e. nat_le x e.0) es)))
    [ true ↦ λ t. (upto x e.0 t, from-self x es) | false ↦ λ t. from-self x es ] refl
  where
    upto : (a b : ℕ) → nat_le a b ≡ true → a ≤ b
    upto a b h = grind (arith, nat_tests)

-- the end of the run of entries from x on is their gap
pub end-gap : (l : Entries ℕ) (x : ℕ) → Rising l → Gap l x (end_of_run x (filter (λ e. nat_le x e.0) l))
end-gap l x r =
    let es : Entries ℕ = filter (λ e. nat_le x e.0) l in
    let from : x ≤ end_of_run x es = end_of_run_from x es in
    record {
      from = from;
      absent = sym (from-key l x (end_of_run x es) from) ∙ run-absent x es (from-self x l) (rising_kept (λ e. nat_le x e.0) l r);
      run = λ y h k. sym (from-key l x y h) ∙ run-there x es y h k;
    }

-- a run of words ends at most one above the greatest
run_upto : (m x : ℕ) (es : Entries ℕ) → AtMost m es → x ≤ m + 1 → end_of_run x es ≤ m + 1
run_upto m x [] h k = k
run_upto m x (e ∷ es) h k = by (e.0 == x) refl (λ j. run_upto m (x + 1) es h.1 j)
  where
    by : (b : Bool) → (e.0 == x) ≡ b → (x + 1 ≤ m + 1 → end_of_run (x + 1) es ≤ m + 1) → cond b (end_of_run (x + 1) es) x ≤ m + 1
    by true is rest = rest (let f = h.0 in let q = eqb-true e.0 x is in omega arith)
    by false is rest = k

-- ---- as an answer: none stands for the word after the greatest

abbrev pub gap_of : Option ℕ → ℕ
gap_of None = 18446744073709551616
gap_of (Some e) = e

-- no key is above the greatest word
pub past-words : (l : Entries ℕ) (n : ℕ) → AtMost max_word l → max_word < n → has_key word_order l n ≡ false
past-words [] n a h = refl
past-words (e ∷ l) n a h = rw (eq-not n e.0 (λ s. absurd (let f = a.0 in omega (arith, s, f)))) (past-words l n a.1 h)

at_most_of : (x : ℕ) (es : Entries ℕ) → list_all (λ e. nat_le e.0 x) es ≡ true → AtMost x es
at_most_of x [] h = tt
at_most_of x (e ∷ es) h = (upto e.0 x (and_left (nat_le e.0 x) _ h), at_most_of x es (and_right (nat_le e.0 x) _ h))
  where
    upto : (a b : ℕ) → nat_le a b ≡ true → a ≤ b
    upto a b h = grind (arith, nat_tests)

pub words-most : (l : Entries ℕ) → IsWordArray l → AtMost max_word l
words-most l w = at_most_of max_word l w.1

-- an answer is a word
pub answer-word : (l : Entries ℕ) (x d : ℕ) → first_empty l x ≡ Some d → d ≤ max_word
answer-word l x d h = by (end_of_run x (filter (λ e. nat_le x e.0) l)) h
  where
    by : (n : ℕ) → cond (nat_le n max_word) (Some n) None ≡ Some d → d ≤ max_word
    by n h = elim (nat_le n max_word) as (λ t. nat_le n max_word ≡ t → cond t (Some n) None ≡ Some d → d ≤ max_word) [
      | true ↦ λ t i. subst (λ n. n ≤ max_word) (some_same n d i) (upto n max_word t)
      | false ↦ λ t i. absurd (not_true (ap is_some i))
    ] refl h
      where
        upto : (a b : ℕ) → nat_le a b ≡ true → a ≤ b
        upto a b h = grind (arith, nat_tests)

        some_same : (x a : ℕ) → Some x ≡ Some a → x ≡ a
        some_same x a i = cc

pub answer-gap : (l : Entries ℕ) (x : ℕ) (o : Option ℕ) → IsWordArray l → x ≤ max_word → o ≡ first_empty l x → Gap l x (gap_of o)
answer-gap l x o w s h =
    let es : Entries ℕ = filter (λ e. nat_le x e.0) l in
    let g = end-gap l x (rising_of l w.0) in
    let most : end_of_run x es ≤ max_word + 1 = run_upto max_word x es
    (at_most_kept (λ e. nat_le x e.0) max_word l (at_most_of max_word l w.1)) (omega arith) in
    subst (λ o. Gap l x (gap_of o)) (sym h)
    (elim (nat_le (end_of_run x es) max_word) as (λ t. nat_le (end_of_run x es) max_word ≡ t → Gap l x (gap_of (cond t (Some (end_of_run x es)) None))) [
      | true ↦ λ t. g
      | false ↦ λ t. subst (λ n. Gap l x n) (let n = over (end_of_run x es) max_word t in omega arith) g
    ] refl)
  where
    over : (a b : ℕ) → nat_le a b ≡ false → b < a
    over a b h = grind (arith, nat_tests)

pub gap-answer : (l : Entries ℕ) (x : ℕ) (o : Option ℕ) → Rising l → ((e : ℕ) → o ≡ Some e → e ≤ max_word) → Gap l x (gap_of o) → o ≡ first_empty l x
gap-answer l x o r s h =
    let es : Entries ℕ = filter (λ e. nat_le x e.0) l in
    by o (end_of_run x es) s (gap-one l x (gap_of o) (end_of_run x es) h (end-gap l x r))
  where
    by : (o : Option ℕ) (n : ℕ) → ((e : ℕ) → o ≡ Some e → e ≤ max_word) → gap_of o ≡ n → o ≡ cond (nat_le n max_word) (Some n) None
    by None n s e = rw (le-not n max_word (omega arith)) refl
    by (Some d) n s e = let k = s d refl in rw (le-test n max_word (omega arith)) (ap Some e)

-- ---- entries that are as many as the words in their range

few : (l : Entries ℕ) (low high : ℕ) → Rising l → AtLeast low l → Each (λ e. e.0 < high) l → low ≤ high → low + length l ≤ high
few [] low high r a h k = omega arith
few (e ∷ l) low high r a h k = let i = h.0 in let n = few l (e.0 + 1) high r.1 r.0 h.1 (omega arith) in let m = a.0 in omega arith

pub full : (l : Entries ℕ) (low high y : ℕ) → Rising l → AtLeast low l → Each (λ e. e.0 < high) l → low + length l ≡ high
    → low ≤ y → y < high → has_key word_order l y ≡ true
full [] low high y r a h n i k = absurd (omega arith)
full (e ∷ l) low high y r a h n i k =
    let j = h.0 in
    let m = few l (e.0 + 1) high r.1 r.0 h.1 (omega arith) in
    let f = a.0 in
    let same : e.0 ≡ low = omega arith in
    elim (eq_by_cmp word_order y e.0) as (λ t. eq_by_cmp word_order y e.0 ≡ t → is_some (cond t (Some e.1) (find word_order y l)) ≡ true) [
      | true ↦ λ t. refl
      | false ↦ λ t. full l (low + 1) high y r.1 (subst (λ z. AtLeast (z + 1) l) same r.0) h.1 (omega arith)
          (let n = other_word y e.0 t in strict low y i (λ q. n (sym q ∙ sym same))) k
    ] refl
  where
    strict : (a m : ℕ) → a ≤ m → a ≢ m → a + 1 ≤ m
    strict a m i n = grind arith
