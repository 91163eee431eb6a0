-- The place of a key among sorted entries, and a write at that place.
use Rattle.std.proofs.Common.{◌≡◌, ℕ, ◌<◌, ◌≤◌, true, cond, List, [], ◌∷◌, length, refl, sym, ◌∙◌, ap, subst, arith, Some}
use Rattle.std.proofs.Common.{None, Ok, Err, Result, get_or, set, one-add}
use Rattle.std.specs.List.{insert}
use Rattle.std.specs.declared.cmp.Ordering.{Ordering}
use Rattle.std.specs.declared.cmp.Ordering.TheVariants.{Less, Equal, Greater}
use Rattle.std.specs.Ordering.{eq_by_cmp, is_eq, is_lt}
use Rattle.std.specs.Cmp.{IsTotalOrder}
use Rattle.std.specs.FinMap.{find, put, is_sorted}
use Rattle.std.specs.FinMap.Entries.{by_order, below_all}
use Rattle.judy_model.specs.Contents.{Order}
use Rattle.judy_reference.specs.Store.{later, sorted_place}
use Rattle.judy_model.proofs.lemmas.StateLemmas.{and_left, and_right}
use Rattle.judy_model.proofs.lemmas.TestLemmas.{is_Less}

module _ {K V : Type 0} (R : Order K) where
  -- the entry at the place, and the entries after a write there
  abbrev pub Stands : K → List (K × V) → Result ℕ ℕ → Type 0
  Stands k es (Ok i) = (i < length es) × ((d : K × V) → find R k es ≡ Some (get_or es i d).1)
      × ((d : K × V) (v : V) → put R k v es ≡ set es i ((get_or es i d).0, v))
      × ((d : K × V) → eq_by_cmp R k (get_or es i d).0 ≡ true)
  Stands k es (Err i) = (i ≤ length es) × (is_sorted R es ≡ true → find R k es ≡ None) × ((v : V) → put R k v es ≡ insert es i (k, v))

  module _ (total : IsTotalOrder R) where
    none_below : (k x : K) (es : List (K × V)) → R k x ≡ Less → below_all R x es ≡ true → find R k es ≡ None
    none_below k x [] less all = refl
    none_below k x (e ∷ es) less all =
        let above : R x e.0 ≡ Less = is_Less (R x e.0) (and_left (is_lt (R x e.0)) _ all) in
        let apart : R k e.0 ≡ Less = total.trans k x e.0 less above in
        ap (λ r. cond (is_eq r) (Some e.1) (find R k es)) apart ∙ none_below k x es less (and_right (is_lt (R x e.0)) _ all)

    one_more : (k : K) (e : K × V) (es : List (K × V)) (r : Ordering) → R k e.0 ≡ r → (p : Result ℕ ℕ) → Stands k es p
        → Stands k (e ∷ es) (by_order r (Err 0) (Ok 0) (later 1 p))
    one_more k e es Less is p h = (
      omega arith,
      (λ sorted. ap (λ r. cond (is_eq r) (Some e.1) (find R k es)) is ∙ none_below k e.0 es is
          (and_left (below_all R e.0 es) _ sorted)),
      λ v. rw is refl,
    )
    one_more k e es Equal is p h = (omega arith, (λ d. rw is refl), (λ d v. rw is refl), λ d. ap is_eq is)
    one_more k e es Greater is (Ok i) h =
        rw one-add (omega (arith, h.0), (λ d. rw is (h.1 d)), (λ d v. rw is (ap (λ z. e ∷ z) (h.2 d v))), h.3)
    one_more k e es Greater is (Err i) h =
        rw one-add (omega (arith, h.0), (λ sorted. rw is (h.1 (and_right (below_all R e.0 es) _ sorted))), λ v. rw is (ap (λ z. e ∷ z) (h.2 v)))

    pub place_of-Stands : (k : K) (es : List (K × V)) → Stands k es (sorted_place R k es)
    place_of-Stands k [] = (omega arith, (λ sorted. refl), λ v. refl)
    place_of-Stands k (e ∷ es) = one_more k e es (R k e.0) refl (sorted_place R k es) (place_of-Stands k es)

    -- the same at a place that a search found
    pub found-Stands : (k : K) (xs es : List (K × V)) (p q : Result ℕ ℕ) → q ≡ p → q ≡ sorted_place R k xs → xs ≡ es → Stands k es p
    found-Stands k xs es p q is by same = subst (Stands k es) (ap (sorted_place R k) (sym same) ∙ sym by ∙ is) (place_of-Stands k es)
