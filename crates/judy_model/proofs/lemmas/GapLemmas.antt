-- The least absent word is found.
use Rattle.std.proofs.Common.{◌≡◌, ◌≢◌, ℕ, ◌+◌, ◌≤◌, Bool, true, false, cond, ◌&&◌, [], ◌∷◌, length, refl, sym, ◌∙◌, ap, subst, arith, Some, None, eqb-true}
use Rattle.std.specs.Prelude.{filter, nat_le, ◌==◌, is_some}
use Rattle.std.specs.List.{list_all}
use Rattle.std.specs.Ordering.{nat_cmp, is_lt, eq_by_cmp}
use Rattle.std.specs.FinMap.{find, nat_cmp-IsAntisymmetric}
use Rattle.std.specs.FinMap.Entries.{below_all, find-where_key}
use Rattle.std.proofs.lemmas.Bool.{eqb-false}
use Rattle.std.proofs.lemmas.Bool.Decides.{nat_tests}
use Rattle.judy_model.specs.Contents.{Entries, IsRising, IsWordArray, word_order, max_word, has_key, count}
use Rattle.judy_model.specs.Gaps.{IsFirstEmpty, end_of_run, first_empty}
use Rattle.judy_model.proofs.lemmas.WordLemmas.{le-test, le-not, end_of_run_from}
use Rattle.judy_model.proofs.lemmas.TestLemmas.{and_left, and_right}

-- each key is at least x, or at most
abbrev pub AtLeast : ℕ → Entries ℕ → Type 0
AtLeast x [] = Unit {0}
AtLeast x (e ∷ es) = (x ≤ e.0) × AtLeast x es

-- each key is at most x
abbrev pub AtMost : ℕ → Entries ℕ → Type 0
AtMost x [] = Unit {0}
AtMost x (e ∷ es) = (e.0 ≤ x) × AtMost x es

-- each key is below those after it
abbrev pub Rising : Entries ℕ → Type 0
Rising [] = Unit {0}
Rising (e ∷ es) = AtLeast (e.0 + 1) es × Rising es

-- a number that compares less is less
below : (a b : ℕ) → is_lt (nat_cmp a b) ≡ true → a + 1 ≤ b
below a b h = grind (arith, nat_tests)

-- keys after a key are above it
pub at_least_of : (x : ℕ) (es : Entries ℕ) → below_all word_order x es ≡ true → AtLeast (x + 1) es
at_least_of x [] h = tt
at_least_of x (e ∷ es) h = (below x e.0 (and_left (is_lt (nat_cmp x e.0)) _ h), at_least_of x es (and_right (is_lt (nat_cmp x e.0)) _ h))

-- keys that increase by test increase
pub rising_of : (es : Entries ℕ) → IsRising word_order es → Rising es
rising_of [] h = tt
rising_of (e ∷ es) h = (at_least_of e.0 es (and_left (below_all word_order e.0 es) _ h), rising_of es (and_right (below_all word_order e.0 es) _ h))

-- a test that holds is an order
pub le_of : (a b : ℕ) → nat_le a b ≡ true → a ≤ b
le_of a b h = grind (arith, nat_tests)

-- a test that fails is the other order
pub not_le : (a b : ℕ) → nat_le a b ≡ false → b + 1 ≤ a
not_le a b h = grind (arith, nat_tests)

-- keys that are words are at most the greatest word
at_most_of : (x : ℕ) (es : Entries ℕ) → list_all (λ e. nat_le e.0 x) es ≡ true → AtMost x es
at_most_of x [] h = tt
at_most_of x (e ∷ es) h = (le_of e.0 x (and_left (nat_le e.0 x) _ h), at_most_of x es (and_right (nat_le e.0 x) _ h))

-- a lower bound may be lowered
pub weaker : (x y : ℕ) (es : Entries ℕ) → x ≤ y → AtLeast y es → AtLeast x es
weaker x y [] h k = tt
weaker x y (e ∷ es) h k = (omega (arith, k.0), weaker x y es h k.1)

-- a filter keeps bounds and order
module _ (p : ℕ × ℕ → Bool) where
  -- a filter keeps a lower bound
  at_least_kept : (x : ℕ) (es : Entries ℕ) → AtLeast x es → AtLeast x (filter p es)
  at_least_kept x [] h = tt
  at_least_kept x (e ∷ es) h = elim (p e) as (λ b. AtLeast x (cond b (e ∷ filter p es) (filter p es)))
      [ true ↦ (h.0, at_least_kept x es h.1) | false ↦ at_least_kept x es h.1 ]

  -- an upper bound
  pub at_most_kept : (x : ℕ) (es : Entries ℕ) → AtMost x es → AtMost x (filter p es)
  at_most_kept x [] h = tt
  at_most_kept x (e ∷ es) h = elim (p e) as (λ b. AtMost x (cond b (e ∷ filter p es) (filter p es)))
      [ true ↦ (h.0, at_most_kept x es h.1) | false ↦ at_most_kept x es h.1 ]

  -- a filter keeps the order
  pub rising_kept : (es : Entries ℕ) → Rising es → Rising (filter p es)
  rising_kept [] h = tt
  rising_kept (e ∷ es) h = elim (p e) as (λ b. Rising (cond b (e ∷ filter p es) (filter p es)))
      [ true ↦ (at_least_kept (e.0 + 1) es h.0, rising_kept es h.1) | false ↦ rising_kept es h.1 ]

  -- two tests in a row
  pub filter_twice : (q : ℕ × ℕ → Bool) (es : Entries ℕ) → filter (λ e. p e && q e) es ≡ filter q (filter p es)
  filter_twice q [] = refl
  filter_twice q (e ∷ es) = by (p e) (q e) refl refl (filter_twice q es)
    where
      by : (a b : Bool) → p e ≡ a → q e ≡ b → filter (λ x. p x && q x) es ≡ filter q (filter p es) → filter (λ x. p x && q x)
          (e ∷ es) ≡ filter q (filter p (e ∷ es))
      by true true f g h = rw (f, g) (ap (λ z. e ∷ z) h)
      by true false f g h = rw (f, g) h
      by false b f g h = rw f h

-- the entries from x on are from x on
from_self : (x : ℕ) (es : Entries ℕ) → AtLeast x (filter (λ e. nat_le x e.0) es)
from_self x [] = tt
from_self x (e ∷ es) = by (nat_le x e.0) refl (from_self x es)
  where
    by : (b : Bool) → nat_le x e.0 ≡ b → AtLeast x (filter (λ p. nat_le x p.0) es) → AtLeast x (filter (λ p. nat_le x p.0) (e ∷ es))
    by true f h = rw f (le_of x e.0 f, h)
    by false f h = rw f h

-- numbers that differ do not compare equal
pub eq-not : (a b : ℕ) → a ≢ b → eq_by_cmp nat_cmp a b ≡ false
eq-not a b h = grind (arith, nat_tests)

-- a word below all keys is absent
pub absent_below : (x : ℕ) (es : Entries ℕ) → AtLeast (x + 1) es → has_key word_order es x ≡ false
absent_below x [] h = refl
absent_below x (e ∷ es) h = let other : eq_by_cmp nat_cmp x e.0 ≡ false = eq-not x e.0 (λ s. absurd (omega (arith, h.0, s))) in rw other (absent_below x es h.1)

-- no key is at most a word below all
none_upto : (x : ℕ) (es : Entries ℕ) → AtLeast (x + 1) es → length (filter (λ p. nat_le p.0 x) es) ≡ 0
none_upto x [] h = refl
none_upto x (e ∷ es) h = rw (le-not e.0 x (omega (arith, h.0))) (none_upto x es h.1)

-- all keys are at most a word above all
all_upto : (x y : ℕ) (es : Entries ℕ) → AtMost x es → x ≤ y → filter (λ p. nat_le p.0 y) es ≡ es
all_upto x y [] h k = refl
all_upto x y (e ∷ es) h k = rw (le-test e.0 y (omega (arith, h.0))) (ap (λ z. e ∷ z) (all_upto x y es h.1 k))

-- at the end of a run the word is absent, and the others from x up to it are present
run : (x : ℕ) (es : Entries ℕ) → AtLeast x es → Rising es
    → (has_key word_order es (end_of_run x es) ≡ false) × (length (filter (λ p. nat_le p.0 (end_of_run x es)) es) + x ≡ end_of_run x es)
run x [] h k = (refl, omega arith)
run x (e ∷ es) h k = by (e.0 == x) refl (λ at. run (x + 1) es at k.1)
  where
    by : (b : Bool) → (e.0 == x) ≡ b
        → (AtLeast (x + 1) es → (has_key word_order es (end_of_run (x + 1) es) ≡ false)
        × (length (filter (λ p. nat_le p.0 (end_of_run (x + 1) es)) es) + (x + 1) ≡ end_of_run (x + 1) es))
        → (has_key word_order (e ∷ es) (end_of_run x (e ∷ es)) ≡ false)
        × (length (filter (λ p. nat_le p.0 (end_of_run x (e ∷ es))) (e ∷ es)) + x ≡ end_of_run x (e ∷ es))
    by true is rest =
        let same : e.0 ≡ x = eqb-true e.0 x is in
        let (gone, many) = rest (subst (λ y. AtLeast (y + 1) es) same k.0) in
        let above : x + 1 ≤ end_of_run (x + 1) es = end_of_run_from (x + 1) es in
        let other : eq_by_cmp nat_cmp (end_of_run (x + 1) es) e.0 ≡ false = eq-not (end_of_run (x + 1) es) e.0 (λ s. absurd (omega (arith, s, same, above))) in
        let passes : nat_le e.0 (end_of_run (x + 1) es) ≡ true = le-test e.0 (end_of_run (x + 1) es) (omega (arith, same, above)) in
        let end : end_of_run x (e ∷ es) ≡ end_of_run (x + 1) es = rw is refl in
        subst (λ n. (has_key word_order (e ∷ es) n ≡ false) × (length (filter (λ p. nat_le p.0 n) (e ∷ es)) + x ≡ n)) (sym end)
        (rw other gone, rw passes (omega (arith, many)))
    by false is rest =
        let over : x + 1 ≤ e.0 = omega (arith, h.0, eqb-false e.0 x is) in
        let at : AtLeast (x + 1) es = weaker (x + 1) (e.0 + 1) es (omega (arith, over)) k.0 in
        let all : AtLeast (x + 1) (e ∷ es) = (over, at) in
        let end : end_of_run x (e ∷ es) ≡ x = rw is refl in
        subst (λ n. (has_key word_order (e ∷ es) n ≡ false) × (length (filter (λ p. nat_le p.0 n) (e ∷ es)) + x ≡ n)) (sym end)
        (absent_below x (e ∷ es) all, omega (arith, none_upto x (e ∷ es) all))

-- a run of words ends at most one above the greatest key
run_upto : (m x : ℕ) (es : Entries ℕ) → AtMost m es → x ≤ m + 1 → end_of_run x es ≤ m + 1
run_upto m x [] h k = k
run_upto m x (e ∷ es) h k = by (e.0 == x) refl (λ j. run_upto m (x + 1) es h.1 j)
  where
    by : (b : Bool) → (e.0 == x) ≡ b → (x + 1 ≤ m + 1 → end_of_run (x + 1) es ≤ m + 1) → end_of_run x (e ∷ es) ≤ m + 1
    by true is rest = rw is (rest (omega (arith, h.0, eqb-true e.0 x is)))
    by false is rest = rw is k

-- looking up a key from x on among all entries equals looking it up among those from x on
same_key : (l : Entries ℕ) (x n : ℕ) → x ≤ n → has_key word_order (filter (λ e. nat_le x e.0) l) n ≡ has_key word_order l n
same_key l x n h =
    let found : find nat_cmp n (filter (λ e. nat_le x e.0) l) ≡ cond (nat_le x n) (find nat_cmp n l) None
    = find-where_key nat_cmp (λ k. nat_le x k) n (λ y e. ap (λ k. nat_le x k) (sym (nat_cmp-IsAntisymmetric n y e))) l in
    ap is_some (subst (λ b. find nat_cmp n (filter (λ e. nat_le x e.0) l) ≡ cond b (find nat_cmp n l) None) (le-test x n h) found)

-- the computed answer is the least absent word
pub first_empty-IsFirstEmpty : (l : Entries ℕ) (x : ℕ) → IsWordArray l → x ≤ max_word → IsFirstEmpty l x (first_empty l x)
first_empty-IsFirstEmpty l x word small = at_end (filter (λ e. nat_le x e.0) l) (end_of_run x (filter (λ e. nat_le x e.0) l))
    (nat_le (end_of_run x (filter (λ e. nat_le x e.0) l)) max_word)
    (end_of_run_from x (filter (λ e. nat_le x e.0) l)) (run_upto max_word x (filter (λ e. nat_le x e.0) l) words (omega (arith, small))) words
    facts.0 facts.1 refl refl refl
  where
    words : AtMost max_word (filter (λ e. nat_le x e.0) l)
    words = at_most_kept (λ e. nat_le x e.0) max_word l (at_most_of max_word l word.1)

    facts : (has_key word_order (filter (λ e. nat_le x e.0) l) (end_of_run x (filter (λ e. nat_le x e.0) l)) ≡ false)
        × (length (filter (λ p. nat_le p.0 (end_of_run x (filter (λ e. nat_le x e.0) l))) (filter (λ e. nat_le x e.0) l)) + x
        ≡ end_of_run x (filter (λ e. nat_le x e.0) l))
    facts = run x (filter (λ e. nat_le x e.0) l) (from_self x l) (rising_kept (λ e. nat_le x e.0) l (rising_of l word.0))

    counted : (y : ℕ) → count l x y ≡ length (filter (λ e. nat_le e.0 y) (filter (λ e. nat_le x e.0) l))
    counted y = ap length (filter_twice (λ e. nat_le x e.0) (λ e. nat_le e.0 y) l)

    at_end : (F : Entries ℕ) (n : ℕ) (b : Bool) → x ≤ n → n ≤ max_word + 1 → AtMost max_word F
        → has_key word_order F n ≡ false → length (filter (λ p. nat_le p.0 n) F) + x ≡ n
        → F ≡ filter (λ e. nat_le x e.0) l → n ≡ end_of_run x (filter (λ e. nat_le x e.0) l) → b ≡ nat_le n max_word → IsFirstEmpty l x (first_empty l x)
    at_end F n true low high most gone many isF isn is =
        let answer : Some n ≡ first_empty l x = rw (← isn, ← is) refl in
        let same : count l x n ≡ length (filter (λ p. nat_le p.0 n) F) = rw isF (counted n) in
        subst (IsFirstEmpty l x) answer
        (low, le_of n max_word (sym is), sym (same_key l x n low) ∙ subst (λ G. has_key word_order G n ≡ false) isF gone, omega (arith, same, many))
    at_end F n false low high most gone many isF isn is =
        let answer : None ≡ first_empty l x = rw (← isn, ← is) refl in
        let same : count l x max_word ≡ length (filter (λ p. nat_le p.0 max_word) F) = rw isF (counted max_word) in
        let all : length (filter (λ p. nat_le p.0 max_word) F) ≡ length F = ap length (all_upto max_word max_word F most (omega arith)) in
        let above : max_word + 1 ≤ n = not_le n max_word (sym is) in
        let also : length (filter (λ p. nat_le p.0 n) F) ≡ length F = ap length (all_upto max_word n F most (omega (arith, above))) in
        subst (IsFirstEmpty l x) answer (omega (arith, same, all, also, many, above, high, small))
