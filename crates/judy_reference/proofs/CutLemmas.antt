-- A cut of one array among others, one entry at a time.
use Rattle.std.proofs.Common.{◌≡◌, ℕ, zero, suc, ◌+◌, ◌-◌, ◌<◌, Bool, true, false, cond, not, List, [], ◌∷◌, refl, sym, ◌∙◌, ap, arith, Option, Some, None}
use Rattle.std.specs.Prelude.{filter}
use Rattle.std.specs.declared.cmp.Ordering.{Ordering}
use Rattle.std.specs.declared.cmp.Ordering.TheVariants.{Less, Equal, Greater}
use Rattle.std.specs.Ordering.{eq_by_cmp}
use Rattle.std.specs.Cmp.{IsTotalOrder, tied_itself}
use Rattle.std.specs.Cmp.Lexicographic.{nat_list_cmp_total}
use Rattle.std.specs.FinMap.{put}
use Rattle.std.specs.FinMap.Entries.{by_order}
use Rattle.judy_model.specs.declared.replies.Reply.{Reply}
use Rattle.judy_model.specs.declared.replies.Reply.TheVariants as reply
use Rattle.judy_model.specs.Contents.{Order, Entries, string_order, without_key}
use Rattle.judy_model.specs.Tenant.{Arrays, content_of, with_content, cut_from}
use Rattle.judy_model.proofs.lemmas.StateLemmas.{content_of-with_content_same}
use Rattle.judy_reference.specs.Store.{on_array}

-- ---- an array that is written twice

-- what a filter leaves passes it again
filter-again : {A : Type 0} (p : A → Bool) (xs : List A) → filter p (filter p xs) ≡ filter p xs
filter-again p [] = refl
filter-again p (x ∷ xs) = by (p x) refl (filter-again p xs)
  where
    by : (b : Bool) → p x ≡ b → filter p (filter p xs) ≡ filter p xs
        → filter p (cond b (x ∷ filter p xs) (filter p xs)) ≡ cond b (x ∷ filter p xs) (filter p xs)
    by true is rest = rw is (ap (λ z. x ∷ z) rest)
    by false is rest = rest

module _ {K V : Type 0} (R : Order K) (total : IsTotalOrder R) where
  -- the second value at a key stays
  put-put : (k : K) (v w : V) (es : List (K × V)) → put R k w (put R k v es) ≡ put R k w es
  put-put k v w [] = rw (tied_itself total k) refl
  put-put k v w (e ∷ es) = by (R k e.0) refl (put-put k v w es)
    where
      by : (r : Ordering) → R k e.0 ≡ r → put R k w (put R k v es) ≡ put R k w es
          → put R k w (by_order r ((k, v) ∷ e ∷ es) ((e.0, v) ∷ es) (e ∷ put R k v es))
          ≡ by_order r ((k, w) ∷ e ∷ es) ((e.0, w) ∷ es) (e ∷ put R k w es)
      by Less is rest = rw (tied_itself total k) refl
      by Equal is rest = rw is refl
      by Greater is rest = rw is (ap (λ z. e ∷ z) rest)

  -- a key that is left out is written in vain
  filter-put : (k : K) (v : V) (es : List (K × V)) → filter (λ e. not (eq_by_cmp R k e.0)) (put R k v es) ≡ filter (λ e. not (eq_by_cmp R k e.0)) es
  filter-put k v [] = rw (tied_itself total k) refl
  filter-put k v (e ∷ es) = by (R k e.0) refl (filter-put k v es)
    where
      by : (r : Ordering) → R k e.0 ≡ r → filter (λ x. not (eq_by_cmp R k x.0)) (put R k v es) ≡ filter (λ x. not (eq_by_cmp R k x.0)) es
          → filter (λ x. not (eq_by_cmp R k x.0)) (by_order r ((k, v) ∷ e ∷ es) ((e.0, v) ∷ es) (e ∷ put R k v es))
          ≡ filter (λ x. not (eq_by_cmp R k x.0)) (e ∷ es)
      by Less is rest = rw (tied_itself total k) refl
      by Equal is rest = rw is refl
      by Greater is rest = rw is (ap (λ z. e ∷ z) rest)

-- The second content stays. An array that was removed has to stay removed: only a sorted directory gets it back at its
-- place.
with_content-again : {K : Type 0} (arrays : Arrays K) (name : List ℕ) (m l : Entries K) → (m ≡ [] → l ≡ [])
    → with_content (with_content arrays name m) name l ≡ with_content arrays name l
with_content-again arrays name [] [] h = filter-again (λ a. not (eq_by_cmp string_order name a.0)) arrays
with_content-again arrays name [] (e ∷ es) h = let never : e ∷ es ≡ [] = h refl in cc
with_content-again arrays name (e ∷ es) [] h = filter-put string_order nat_list_cmp_total name (e ∷ es) arrays
with_content-again arrays name (e ∷ es) (f ∷ fs) h = put-put string_order nat_list_cmp_total name (e ∷ es) (f ∷ fs) arrays

-- ---- a cut that has come so far

module _ {K : Type 0} (order : Order K) (search : Entries K → Option (K × ℕ)) where
  -- so many are removed, at most n more are to be, and this one is found
  abbrev pub cut_on : Arrays K → List ℕ → ℕ → ℕ → Option (K × ℕ) → Reply × Arrays K
  cut_on arrays name count n found =
      on_array arrays name (λ l. (reply.Count (cut_from order search count n l found).0, (cut_from order search count n l found).1))

  -- nothing is removed where nothing is found
  none : (count n : ℕ) (l : Entries K) → cut_from order search count n l None ≡ (count, l)
  none count zero l = refl
  none count (suc n) l = refl

  -- one more is removed
  pub cut_goes_on : search [] ≡ None → (arrays new : Arrays K) (name : List ℕ) (count most : ℕ) (found behind : Option (K × ℕ)) (e : K × ℕ)
      (all : Reply × Arrays K) → cut_on arrays name count (most - count) found ≡ all → found ≡ Some e → count < most
      → new ≡ with_content arrays name (without_key order (content_of arrays name) e.0) → behind ≡ search (content_of new name)
      → cut_on new name (count + 1) (most - (count + 1)) behind ≡ all
  cut_goes_on nothing arrays new name count most found behind e all left is below written next =
      let n = most - (count + 1) in
      let rest = without_key order (content_of arrays name) e.0 in
      let more : most - count ≡ suc n = omega (arith, below) in
      let there : content_of new name ≡ rest = ap (λ a. content_of a name) written ∙ content_of-with_content_same arrays name rest in
      let goal = cut_from order search (count + 1) n rest (search rest) in
      let stays : rest ≡ [] → goal.1 ≡ [] = λ empty.
      ap (λ l. (cut_from order search (count + 1) n l (search l)).1) empty
      ∙ ap (λ o. (cut_from order search (count + 1) n [] o).1) nothing ∙ ap (λ p. p.1) (none (count + 1) n []) in
      ap (λ o. cut_on new name (count + 1) n o) next
      ∙ ap (λ l. (
        reply.Count (cut_from order search (count + 1) n l (search l)).0,
        with_content new name (cut_from order search (count + 1) n l (search l)).1,
      )) there
      ∙ ap (λ a. (reply.Count goal.0, with_content a name goal.1)) written
      ∙ ap (λ a. (reply.Count goal.0, a)) (with_content-again arrays name rest goal.1 stays)
      ∙ sym (ap (λ m. cut_on arrays name count m (Some e)) more)
      ∙ sym (ap (λ o. cut_on arrays name count (most - count) o) is)
      ∙ left
