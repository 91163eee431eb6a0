-- Walks. Loops that list one: what is in the list and what is still to come stay what the whole walk lists. What all
-- entries have, an entry that a search finds has too.
use Rattle.std.proofs.Common.{◌≡◌, ◌+◌, ◌-◌, ◌<◌, ◌++◌, ◌∷◌, ◌∙◌, ℕ, zero, suc, Bool, true, false, cond, List, [], Option, Some, None, refl, sym, subst, ap, arith, map, length}
use Rattle.std.specs.Prelude.{filter, nat_le}
use Rattle.std.specs.List.{list_all}
use Rattle.std.proofs.lemmas.Bool.{and_from}
use Rattle.judy_model.specs.Contents.{Order, Entries, head_of, last_of}
use Rattle.judy_model.specs.declared.calls.Search.{Search}
use Rattle.judy_model.specs.declared.calls.Search.TheVariants.{First, Next, Last, Prev}
use Rattle.judy_model.proofs.lemmas.TestLemmas.{and_left, and_right}
use Rattle.judy_model.specs.declared.lists.TheConstants.{LIST_LIMIT}
use Rattle.judy_model.specs.Walks.{found_by, listed_from, walk_from}

module _ {E : Type 0} (show : E → List ℕ) (on : E → Option E) where
  -- what is still to come is added to the list
  abbrev pub rest : ℕ → List ℕ → ℕ → Option E → ℕ × List ℕ
  rest count text n found = listed_from count text (map show (walk_from on n found))

  pub walk_starts : (most : ℕ) (text : List ℕ) (found : Option E) → text ≡ [] → rest 0 text (most - 0) found ≡ rest 0 [] most found
  walk_starts most text found empty =
      let all : most - 0 ≡ most = omega arith in
      ap (λ t. rest 0 t (most - 0) found) empty ∙ ap (λ n. rest 0 [] n found) all

  -- nothing comes behind the end
  none : (n : ℕ) → walk_from on n None ≡ []
  none zero = refl
  none (suc n) = refl

  pub walk_ends : (count n : ℕ) (text : List ℕ) (found : Option E) (all : ℕ × List ℕ) → rest count text n found ≡ all → found ≡ None → all ≡ (count, text)
  walk_ends count n text found all same is =
      sym same ∙ ap (λ o. rest count text n o) is ∙ ap (λ es. listed_from count text (map show es)) (none n)

  -- one of at least one comes first
  next_is : (most count : ℕ) (e : E) → count < most → walk_from on (most - count) (Some e) ≡ e ∷ walk_from on (most - (count + 1)) (on e)
  next_is most count e below =
      let more : most - count ≡ suc (most - (count + 1)) = omega (arith, below) in
      ap (λ n. walk_from on n (Some e)) more

  -- a text that does not fit ends the list
  stops : (fits : Bool) (count : ℕ) (text t : List ℕ) (ts : List (List ℕ)) → nat_le (length text + length t) LIST_LIMIT ≡ fits → fits ≡ false
      → listed_from count text (t ∷ ts) ≡ (count, text)
  stops fits count text t ts test is = rw test (rw is refl)

  goes_on : (fits : Bool) (count : ℕ) (text t : List ℕ) (ts : List (List ℕ)) → nat_le (length text + length t) LIST_LIMIT ≡ fits → fits ≡ true
      → listed_from count text (t ∷ ts) ≡ listed_from (count + 1) (text ++ t) ts
  goes_on fits count text t ts test is = rw test (rw is refl)

  pub walk_cut : (count most : ℕ) (text : List ℕ) (found : Option E) (e : E) (all : ℕ × List ℕ) (fits : Bool) → rest count text (most - count) found ≡ all
      → found ≡ Some e → count < most → fits ≡ nat_le (length text + length (show e)) LIST_LIMIT → fits ≡ false → all ≡ (count, text)
  walk_cut count most text found e all fits same is below test over =
      sym same ∙ ap (λ o. rest count text (most - count) o) is ∙ ap (λ es. listed_from count text (map show es)) (next_is most count e below)
      ∙ stops fits count text (show e) (map show (walk_from on (most - (count + 1)) (on e))) (sym test) over

  pub walk_goes_on : (count most : ℕ) (text text' : List ℕ) (found found' : Option E) (e : E) (all : ℕ × List ℕ) (fits : Bool)
      → rest count text (most - count) found ≡ all → found ≡ Some e → count < most → fits ≡ nat_le (length text + length (show e)) LIST_LIMIT
      → fits ≡ true → text' ≡ text ++ show e → found' ≡ on e → rest (count + 1) text' (most - (count + 1)) found' ≡ all
  walk_goes_on count most text text' found found' e all fits same is below test room added behind =
      ap (λ u. rest (count + 1) u (most - (count + 1)) found') added ∙ ap (λ o. rest (count + 1) (text ++ show e) (most - (count + 1)) o) behind
      ∙ sym (goes_on fits count text (show e) (map show (walk_from on (most - (count + 1)) (on e))) (sym test) room)
      ∙ sym (ap (λ es. listed_from count text (map show es)) (next_is most count e below))
      ∙ sym (ap (λ o. rest count text (most - count) o) is) ∙ same

  pub walk_done : (count most : ℕ) (text : List ℕ) (found : Option E) (all : ℕ × List ℕ) → rest count text (most - count) found ≡ all → count ≡ most → all ≡ (most, text)
  walk_done count most text found all same is =
      let nothing : most - count ≡ 0 = omega (arith, is) in
      sym same ∙ ap (λ n. rest count text n found) nothing ∙ ap (λ n. (n, text)) is

-- ---- what is found

module _ {A : Type 0} (q : A → Bool) where
  -- what all have, those that are kept have too
  kept : (p : A → Bool) (l : List A) → list_all q l ≡ true → list_all q (filter p l) ≡ true
  kept p [] all = refl
  kept p (x ∷ l) all = elim (p x) as (λ t. list_all q (cond t (x ∷ filter p l) (filter p l)) ≡ true) [
    | true ↦ and_from (q x) _ (and_left (q x) _ all) (kept p l (and_right (q x) _ all))
    | false ↦ kept p l (and_right (q x) _ all)
  ]

  some_is : (x y : A) → Some x ≡ Some y → x ≡ y
  some_is x y e = cc

  first_has : (l : List A) (e : A) → list_all q l ≡ true → head_of l ≡ Some e → q e ≡ true
  first_has [] e all is = cc
  first_has (x ∷ l) e all is = subst (λ y. q y ≡ true) (some_is x e is) (and_left (q x) _ all)

  last_has : (l : List A) (e : A) → list_all q l ≡ true → last_of l ≡ Some e → q e ≡ true
  last_has [] e all is = cc
  last_has (x ∷ []) e all is = subst (λ y. q y ≡ true) (some_is x e is) (and_left (q x) _ all)
  last_has (x ∷ y ∷ l) e all is = last_has (y ∷ l) e (and_right (q x) _ all) is

pub found_has : {K : Type 0} (q : K × ℕ → Bool) (order : Order K) (l : Entries K) (search : Search) (x : K) (e : K × ℕ)
    → list_all q l ≡ true → found_by order l search x ≡ Some e → q e ≡ true
found_has q order l First x e all is = first_has q (filter _ l) e (kept q _ l all) is
found_has q order l Next x e all is = first_has q (filter _ l) e (kept q _ l all) is
found_has q order l Last x e all is = last_has q (filter _ l) e (kept q _ l all) is
found_has q order l Prev x e all is = last_has q (filter _ l) e (kept q _ l all) is
