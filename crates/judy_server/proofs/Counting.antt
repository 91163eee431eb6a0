-- Counts of items one after another.
use Rattle.std.proofs.Common.{◌≡◌, ◌<◌, ◌≤◌, ◌+◌, ◌∙◌, ℕ, zero, suc, Bool, true, false, List, [], ◌∷◌, ap, arith, get_or, length, map, refl, sym, take}
use Rattle.std.specs.Prelude.{count_by}
use Rattle.std.proofs.lemmas.List.{length-map, take_all}
use Rattle.std.proofs.lemmas.List.Sums.{count_by_more_no, count_by_more_yes}

module _ {A B : Type 0} (test : B → Bool) (f : A → B) where
  at : (xs : List A) (i : ℕ) (x : A) → i < length xs → x ≡ get_or xs i x → get_or (map f xs) i (f x) ≡ f x
  at [] i x few e = absurd (omega (arith, few))
  at (y ∷ xs) zero x few e = ap f (sym e)
  at (y ∷ xs) (suc i) x few e = at xs i x (omega (arith, few)) e

  within : (xs : List A) (i : ℕ) → i < length xs → i < length (map f xs)
  within xs i few = let e = length-map xs f in omega (arith, few, e)

  pub counted_none : (xs : List A) → 0 ≡ count_by test (take 0 (map f xs))
  counted_none xs = refl

  pub counted_yes : (xs : List A) (i : ℕ) (x : A) → i < length xs → x ≡ get_or xs i x → test (f x) ≡ true
      → count_by test (take (i + 1) (map f xs)) ≡ count_by test (take i (map f xs)) + 1
  counted_yes xs i x few e so = count_by_more_yes test (map f xs) i (f x) (within xs i few) (ap test (at xs i x few e) ∙ so)

  pub counted_no : (xs : List A) (i : ℕ) (x : A) → i < length xs → x ≡ get_or xs i x → test (f x) ≡ false
      → count_by test (take (i + 1) (map f xs)) ≡ count_by test (take i (map f xs))
  counted_no xs i x few e not = count_by_more_no test (map f xs) i (f x) (within xs i few) (ap test (at xs i x few e) ∙ not)

  pub counted_all : (xs : List A) (i : ℕ) → length xs ≤ i → count_by test (take i (map f xs)) ≡ count_by test (map f xs)
  counted_all xs i all = ap (count_by test) (take_all i (map f xs) (let e = length-map xs f in omega (arith, all, e)))
