-- Each of the four gaps has exactly one answer: the computed one.
use Rattle.std.proofs.Common.{◌≡◌, ◌≢◌, ℕ, suc, ◌+◌, ◌-◌, ◌≤◌, ◌<◌, ◌⊎◌, inl, inr, Bool, true, false, cond, ◌&&◌, [], ◌∷◌}
use Rattle.std.proofs.Common.{length, refl, sym, ◌∙◌, ap, subst, arith, Some, None}
use Rattle.std.specs.Prelude.{zero, nat_le, nat_lt, is_some, MatchBool}
use Rattle.std.specs.Ordering.{nat_cmp, eq_by_cmp}
use Rattle.std.specs.FinMap.{find}
use Rattle.std.proofs.lemmas.Bool.Decides.{nat_tests}
use Rattle.judy_model.specs.Contents.{Entries, IsRising, IsWordArray, word_order, max_word, count, within}
use Rattle.judy_model.specs.Gaps.{IsAbsent, IsFirstEmpty, IsLastEmpty, IsNextEmpty, IsPrevEmpty, first_empty, next_empty}
use Rattle.judy_model.specs.Gaps.{prev_empty, HasOneAnswer, GapsAreFound, GapsHaveOneAnswer}
use Rattle.judy_model.proofs.lemmas.WordLemmas.{le-test}
use Rattle.judy_model.proofs.lemmas.GapLemmas.{AtLeast, Rising, rising_of, first_empty-IsFirstEmpty}
use Rattle.judy_model.proofs.lemmas.GapsBelow.{last_empty-IsLastEmpty}

-- keys that do not compare equal differ
apart : (a b : ℕ) → eq_by_cmp nat_cmp a b ≡ false → a ≢ b
apart a b h = grind (arith, nat_tests)

-- a word that is absent is no key
absent_cons : (e : ℕ × ℕ) (es : Entries ℕ) (n : ℕ) → IsAbsent (e ∷ es) n → (n ≢ e.0) × IsAbsent es n
absent_cons e es n = by (eq_by_cmp nat_cmp n e.0) refl
  where
    by : (b : Bool) → eq_by_cmp nat_cmp n e.0 ≡ b → is_some (cond b (Some e.1) (find nat_cmp n es)) ≡ false → (n ≢ e.0) × IsAbsent es n
    by true is h = cc
    by false is h = (apart n e.0 is, h)

-- whether an entry is counted, and the bound that its key then has
in_range : (a b k : ℕ) (r : Bool) → (nat_le a k && nat_le k b) ≡ r → ((r ≡ true) × (a ≤ k) × (k ≤ b)) ⊎ ((r ≡ false) × ((k < a) ⊎ (b < k)))
in_range a b k r h = grind (arith, nat_tests)

-- keys from k on are counted from k on
from_key : (a b k : ℕ) (es : Entries ℕ) → AtLeast k es → a ≤ k → within es a b ≡ within es k b
from_key a b k [] h le = refl
from_key a b k (e ∷ es) h le =
    let low : nat_le a e.0 ≡ true = le-test a e.0 (omega (arith, h.0)) in
    let also : nat_le k e.0 ≡ true = le-test k e.0 h.0 in
    rw (low, also) (ap (λ z. cond (nat_le e.0 b) (e ∷ z) z) (from_key a b k es h.1 le))

-- there are at most as many keys as words
few : (l : Entries ℕ) (a b : ℕ) → Rising l → a ≤ b + 1 → count l a b + a ≤ b + 1
few [] a b h le = omega arith
few (e ∷ es) a b h le =
    elim (in_range a b e.0 (nat_le a e.0 && nat_le e.0 b) refl) [
      | inl (is, low, high) ↦
          let rest : count es (e.0 + 1) b + (e.0 + 1) ≤ b + 1 = few es (e.0 + 1) b h.1 (omega (arith, high)) in
          let same : count es a b ≡ count es (e.0 + 1) b = ap length (from_key a b (e.0 + 1) es h.0 (omega (arith, low))) in
          rw is (omega (arith, rest, same, low))
      | inr (is, out) ↦ rw is (few es a b h.1 le)
    ]

-- there are fewer if one of the words is absent
pub fewer : (l : Entries ℕ) (a b n : ℕ) → Rising l → a ≤ n → n ≤ b → IsAbsent l n → count l a b + a ≤ b
fewer [] a b n h low high gone = omega arith
fewer (e ∷ es) a b n h low high gone =
    let (other, rest) = absent_cons e es n gone in
    elim (in_range a b e.0 (nat_le a e.0 && nat_le e.0 b) refl) [
      | inl (is, from, upto) ↦
          let same : count es a b ≡ count es (e.0 + 1) b = ap length (from_key a b (e.0 + 1) es h.0 (omega (arith, from))) in
          elim (order n e.0 other) [
            | inl under ↦
                let bound : count es (e.0 + 1) b + (e.0 + 1) ≤ b + 1 = few es (e.0 + 1) b h.1 (omega (arith, upto)) in
                rw is (omega (arith, same, bound, under, low, from))
            | inr over ↦
                let bound : count es (e.0 + 1) b + (e.0 + 1) ≤ b = fewer es (e.0 + 1) b n h.1 (omega (arith, over)) high rest in
                rw is (omega (arith, same, bound, from))
          ]
      | inr (is, out) ↦ rw is (fewer es a b n h.1 low high rest)
    ]
  where
    order : (i j : ℕ) → i ≢ j → (i < j) ⊎ (j < i)
    order i j h = grind (arith, nat_tests)

-- an absent word at an end of a range adds nothing to it
pub absent_top : (l : Entries ℕ) (a b : ℕ) → IsAbsent l (b + 1) → count l a (b + 1) ≡ count l a b
absent_top [] a b gone = refl
absent_top (e ∷ es) a b gone =
    let (other, rest) = absent_cons e es (b + 1) gone in
    let same : nat_le e.0 (b + 1) ≡ nat_le e.0 b = top_test e.0 b other in
    rw same (more (nat_le a e.0 && nat_le e.0 b) (absent_top es a b rest))
  where
    top_test : (k b : ℕ) → b + 1 ≢ k → nat_le k (b + 1) ≡ nat_le k b
    top_test k b h = grind (arith, nat_tests)

    more : (r : Bool) → count es a (b + 1) ≡ count es a b → length (cond r (e ∷ within es a (b + 1)) (within es a (b + 1)))
        ≡ length (cond r (e ∷ within es a b) (within es a b))
    more true h = omega (arith, h)
    more false h = h

-- the same at the lower end
pub absent_bottom : (l : Entries ℕ) (a b : ℕ) → IsAbsent l a → count l a b ≡ count l (a + 1) b
absent_bottom [] a b gone = refl
absent_bottom (e ∷ es) a b gone =
    let (other, rest) = absent_cons e es a gone in
    let same : nat_le a e.0 ≡ nat_le (a + 1) e.0 = bottom_test e.0 a other in
    rw same (more (nat_le (a + 1) e.0 && nat_le e.0 b) (absent_bottom es a b rest))
  where
    bottom_test : (k a : ℕ) → a ≢ k → nat_le a k ≡ nat_le (a + 1) k
    bottom_test k a h = grind (arith, nat_tests)

    more : (r : Bool) → count es a b ≡ count es (a + 1) b → length (cond r (e ∷ within es a b) (within es a b)) ≡ length
        (cond r (e ∷ within es (a + 1) b) (within es (a + 1) b))
    more true h = omega (arith, h)
    more false h = h

module _ (l : Entries ℕ) (rising : Rising l) where
  -- of two absent words with all words before them present, the one is not above the other
  not_above : (x n m : ℕ) → IsFirstEmpty l x (Some n) → IsFirstEmpty l x (Some m) → n < m → ⊥
  not_above x n zero h k less = omega arith
  not_above x n (suc m) (from, small, gone, many) (_, _, other, all) less =
      let at : IsAbsent l (m + 1) = subst (IsAbsent l) (omega arith) other in
      let same : count l x (m + 1) ≡ count l x m = absent_top l x m at in
      let as_said : count l x (m + 1) ≡ m + 1 - x = subst (λ w. count l x w ≡ w - x) (omega arith) all in
      let bound : count l x m + x ≤ m = fewer l x m n rising from (omega (arith, less)) gone in
      omega (arith, same, as_said, bound, from, less)

  -- so the upward answers are equal
  pub first_unique : (x : ℕ) → HasOneAnswer IsFirstEmpty l x
  first_unique x (Some n) (Some m) h k = ap Some (between n m (λ u. not_above x n m h k u) (λ u. not_above x m n k h u))
    where
      between : (n m : ℕ) → ¬ (n < m) → ¬ (m < n) → n ≡ m
      between n m h k = grind arith
  first_unique x (Some n) None (from, small, gone, many) all =
      absurd (let bound : count l x max_word + x ≤ max_word = fewer l x max_word n rising from small gone in omega (arith, bound, all))
  first_unique x None (Some n) all (from, small, gone, many) =
      absurd (let bound : count l x max_word + x ≤ max_word = fewer l x max_word n rising from small gone in omega (arith, bound, all))
  first_unique x None None h k = refl

  -- the same downwards
  not_below : (x n m : ℕ) → IsLastEmpty l x (Some n) → IsLastEmpty l x (Some m) → n < m → ⊥
  not_below x n m (_, gone, many) (upto, other, all) less =
      let same : count l n x ≡ count l (n + 1) x = absent_bottom l n x gone in
      let bound : count l (n + 1) x + (n + 1) ≤ x = fewer l (n + 1) x m rising (omega (arith, less)) upto other in
      omega (arith, same, many, bound, upto, less)

  -- so the downward answers are equal
  pub last_unique : (x : ℕ) → HasOneAnswer IsLastEmpty l x
  last_unique x (Some n) (Some m) h k = ap Some (between n m (λ u. not_below x n m h k u) (λ u. not_below x m n k h u))
    where
      between : (n m : ℕ) → ¬ (n < m) → ¬ (m < n) → n ≡ m
      between n m h k = grind arith
  last_unique x (Some n) None (upto, gone, many) all =
      absurd (let bound : count l 0 x + 0 ≤ x = fewer l 0 x n rising (omega arith) upto gone in omega (arith, bound, all))
  last_unique x None (Some n) all (upto, gone, many) =
      absurd (let bound : count l 0 x + 0 ≤ x = fewer l 0 x n rising (omega arith) upto gone in omega (arith, bound, all))
  last_unique x None None h k = refl

  -- above a word
  pub next_unique : (x : ℕ) → HasOneAnswer IsNextEmpty l x
  next_unique x answer other = by (nat_lt x max_word)
    where
      by : (b : Bool) → MatchBool b (IsFirstEmpty l (x + 1) answer) (answer ≡ None) → MatchBool b (IsFirstEmpty l (x + 1) other) (other ≡ None) → answer ≡ other
      by true h k = first_unique (x + 1) answer other h k
      by false h k = h ∙ sym k

  -- below a word
  pub prev_unique : (x : ℕ) → HasOneAnswer IsPrevEmpty l x
  prev_unique zero answer other h k = h ∙ sym k
  prev_unique (suc x) answer other h k = last_unique x answer other h k

-- all four
pub gaps_have_one_answer : GapsHaveOneAnswer
gaps_have_one_answer l x word small =
    let rising : Rising l = rising_of l word.0 in
    (first_unique l rising x, last_unique l rising x, next_unique l rising x, prev_unique l rising x)

-- the computed answer above a word is an answer
next_found : (l : Entries ℕ) (x : ℕ) → IsWordArray l → IsNextEmpty l x (next_empty l x)
next_found l x word = by (nat_lt x max_word) refl
  where
    by : (b : Bool) → nat_lt x max_word ≡ b → MatchBool b (IsFirstEmpty l (x + 1) (cond b (first_empty l (x + 1)) None))
        (cond b (first_empty l (x + 1)) None ≡ None)
    by true is = first_empty-IsFirstEmpty l (x + 1) word (below x max_word is)
      where
        below : (a b : ℕ) → nat_lt a b ≡ true → a + 1 ≤ b
        below a b h = grind (arith, nat_tests)
    by false is = refl

-- the computed answer below a word is an answer
prev_found : (l : Entries ℕ) (x : ℕ) → IsRising word_order l → IsPrevEmpty l x (prev_empty l x)
prev_found l zero rising = refl
prev_found l (suc x) rising = last_empty-IsLastEmpty l x rising

-- all four
pub gaps_are_found : GapsAreFound
gaps_are_found l x word small =
    (first_empty-IsFirstEmpty l x word small, last_empty-IsLastEmpty l x word.0, next_found l x word, prev_found l x word.0)
