-- Comparisons of words, by comparisons of numbers.
use Rattle.std.proofs.Common.{◌≡◌, ℕ, ◌+◌, ◌<◌, ◌≤◌, Bool, true, false, cond, List, [], ◌∷◌, Some, refl, ◌∙◌, ap, arith}
use Rattle.std.specs.Prelude.{filter, find, nat_lt, nat_le, ◌==◌}
use Rattle.std.specs.Ordering.{nat_cmp, is_lt, is_le, is_gt, is_ge}
use Rattle.std.proofs.lemmas.Bool.Decides.{nat_tests}
use Rattle.std.proofs.lemmas.List.Elements.{filter_agree}
use Rattle.judy_model.specs.Contents.{Entries, word_order, head_of, last_of, first, next, last, prev}
use Rattle.judy_model.specs.Gaps.{end_of_run}

-- the tests of the order of words are the tests of numbers
pub is_ge-words : (a x : ℕ) → is_ge (nat_cmp a x) ≡ nat_le x a
is_ge-words a x = grind (arith, nat_tests)

-- above
pub is_gt-words : (a x : ℕ) → is_gt (nat_cmp a x) ≡ nat_lt x a
is_gt-words a x = grind (arith, nat_tests)

-- at most
pub is_le-words : (a x : ℕ) → is_le (nat_cmp a x) ≡ nat_le a x
is_le-words a x = grind (arith, nat_tests)

-- below
pub is_lt-words : (a x : ℕ) → is_lt (nat_cmp a x) ≡ nat_lt a x
is_lt-words a x = grind (arith, nat_tests)

-- the results of the tests of numbers
pub le-test : (a b : ℕ) → a ≤ b → nat_le a b ≡ true
le-test a b h = grind (arith, nat_tests)

-- below
pub lt-test : (a b : ℕ) → a < b → nat_lt a b ≡ true
lt-test a b h = grind (arith, nat_tests)

-- above
pub le-not : (a b : ℕ) → b < a → nat_le a b ≡ false
le-not a b h = grind (arith, nat_tests)

-- not below
pub lt-not : (a b : ℕ) → b ≤ a → nat_lt a b ≡ false
lt-not a b h = grind (arith, nat_tests)

-- a run does not end before it begins
pub end_of_run_from : (x : ℕ) (l : Entries ℕ) → x ≤ end_of_run x l
end_of_run_from x [] = omega arith
end_of_run_from x (e ∷ es) = elim (e.0 == x) as (λ b. x ≤ cond b (end_of_run (x + 1) es) x)
    [ true ↦ omega (arith, end_of_run_from (x + 1) es) | false ↦ omega arith ]

-- the first entry that passes is the head of the entries that pass
pub head_of-filter : {A : Type 0} (p : A → Bool) (xs : List A) → head_of (filter p xs) ≡ find p xs
head_of-filter p [] = refl
head_of-filter p (x ∷ xs) = elim (p x) as (λ b. head_of (cond b (x ∷ filter p xs) (filter p xs)) ≡ cond b (Some x) (find p xs))
    [ true ↦ refl | false ↦ head_of-filter p xs ]

-- the searches, by comparisons of numbers
pub first-words : (l : Entries ℕ) (x : ℕ) → first word_order l x ≡ find (λ e. nat_le x e.0) l
first-words l x = ap head_of (filter_agree (λ e. is_ge (nat_cmp e.0 x)) (λ e. nat_le x e.0) (λ e. is_ge-words e.0 x) l) ∙ head_of-filter (λ e. nat_le x e.0) l

-- above x
pub next-words : (l : Entries ℕ) (x : ℕ) → next word_order l x ≡ find (λ e. nat_lt x e.0) l
next-words l x = ap head_of (filter_agree (λ e. is_gt (nat_cmp e.0 x)) (λ e. nat_lt x e.0) (λ e. is_gt-words e.0 x) l) ∙ head_of-filter (λ e. nat_lt x e.0) l

-- at most x
pub last-words : (l : Entries ℕ) (x : ℕ) → last word_order l x ≡ last_of (filter (λ e. nat_le e.0 x) l)
last-words l x = ap last_of (filter_agree (λ e. is_le (nat_cmp e.0 x)) (λ e. nat_le e.0 x) (λ e. is_le-words e.0 x) l)

-- below x
pub prev-words : (l : Entries ℕ) (x : ℕ) → prev word_order l x ≡ last_of (filter (λ e. nat_lt e.0 x) l)
prev-words l x = ap last_of (filter_agree (λ e. is_lt (nat_cmp e.0 x)) (λ e. nat_lt e.0 x) (λ e. is_lt-words e.0 x) l)
