-- Queries of words, by comparisons of numbers.
use Rattle.std.proofs.Common.{◌≡◌, ℕ, ◌+◌, ◌<◌, ◌≤◌, Bool, true, false, List, [], ◌∷◌, ◌++◌, length, refl}
use Rattle.std.proofs.Common.{arith, Some, None, get_or, drop, take, suc, append-nil, eq-eqb}
use Rattle.std.specs.Prelude.{filter, find, nat_le, ◌==◌}
use Rattle.std.proofs.Math.Seq.{drop-cons}
use Rattle.std.proofs.lemmas.Grind.{common_steps}
use Rattle.std.proofs.lemmas.List.Elements.{filter_more}
use Rattle.judy_model.specs.Contents.{Entries, max_word, last_of}
use Rattle.judy_model.specs.Gaps.{end_of_run, first_empty}
pub use Rattle.judy_model.proofs.lemmas.WordLemmas.{is_ge-words, is_gt-words, is_le-words, is_lt-words, le-test, lt-test, le-not}
pub use Rattle.judy_model.proofs.lemmas.WordLemmas.{lt-not, end_of_run_from, head_of-filter, first-words, next-words, last-words}
pub use Rattle.judy_model.proofs.lemmas.WordLemmas.{prev-words}

-- an entry that passes the test is found
pub find-here : {A : Type 0} (p : A → Bool) (xs : List A) (i : ℕ) (d : A) → i < length xs → p (get_or xs i d) ≡ true → find p (drop i xs) ≡ Some (get_or xs i d)
find-here p xs i d h e = rw (drop-cons xs i d h, e) refl

-- the last item of a list with one more at the end
pub last_of-push : {A : Type 0} (xs : List A) (x : A) → last_of (xs ++ x ∷ []) ≡ Some x
last_of-push [] x = refl
last_of-push (y ∷ []) x = refl
last_of-push (y ∷ z ∷ xs) x = last_of-push (z ∷ xs) x

-- there is nothing after the end of a list
pub none_left : {A : Type 0} (xs : List A) (i : ℕ) → length xs ≤ i → drop i xs ≡ []
none_left xs i h = grind (arith, common_steps)

-- an entry that fails the test changes nothing
pub last-skip : {A : Type 0} (p : A → Bool) (xs : List A) (i : ℕ) (d : A) → i < length xs → p (get_or xs i d) ≡ false
    → last_of (filter p (take (i + 1) xs)) ≡ last_of (filter p (take i xs))
last-skip p xs i d h e = rw (filter_more p xs i d h, e, append-nil) refl

-- an entry that passes the test is the last one so far
pub last-here : {A : Type 0} (p : A → Bool) (xs : List A) (i : ℕ) (d : A) → i < length xs → p (get_or xs i d) ≡ true
    → last_of (filter p (take (i + 1) xs)) ≡ Some (get_or xs i d)
last-here p xs i d h e = rw (filter_more p xs i d h, e) (last_of-push (filter p (take i xs)) (get_or xs i d))

-- no word is absent above the greatest word
pub gap_at_top : (l : Entries ℕ) (x i : ℕ) (d : ℕ × ℕ) → i < length l → x ≤ (get_or l i d).0 → (get_or l i d).0 ≡ max_word
    → end_of_run max_word (filter (λ e. nat_le x e.0) (drop i l)) ≡ end_of_run x (filter (λ e. nat_le x e.0) l) → None ≡ first_empty l x
gap_at_top l x i d h from top same =
    let passes : nat_le x (get_or l i d).0 ≡ true = le-test x (get_or l i d).0 from in
    let is : ((get_or l i d).0 == max_word) ≡ true = eq-eqb (get_or l i d).0 max_word top in
    let here : end_of_run max_word (filter (λ e. nat_le x e.0) (drop i l)) ≡ end_of_run (max_word + 1)
    (filter (λ e. nat_le x e.0) (drop (suc i) l)) = rw (drop-cons l i d h, passes, is) refl in
    let above : max_word < end_of_run x (filter (λ e. nat_le x e.0) l) = omega (
      arith,
      here,
      same,
      end_of_run_from (max_word + 1)
          (filter (λ e. nat_le x e.0) (drop (suc i) l)),
    ) in
    rw (le-not (end_of_run x (filter (λ e. nat_le x e.0) l)) max_word above) refl
