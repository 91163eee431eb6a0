-- Intersections. A loop that lists one: what is in the list and what is still to come stay what the whole call shows.
use Rattle.std.proofs.Common.{◌≡◌, ◌+◌, ◌-◌, ◌<◌, ◌≤◌, ◌++◌, ◌∙◌, ℕ, zero, suc, Bool, true, false, List, Option, Some, None, refl, sym, ap, arith, length, length-append}
use Rattle.std.specs.Prelude.{nat_le, option_and_then}
use Rattle.judy_model.specs.Contents.{Entries}
use Rattle.judy_model.specs.Intersections.{Intersection, behind, intersect_from, meet}
use Rattle.judy_model.specs.Walks.{index_words}
use Rattle.judy_model.proofs.lemmas.GapLemmas.{le_of}
use Rattle.judy_model.specs.declared.lists.TheConstants.{INTERSECTION_LIMIT}

module _ (l m : Entries ℕ) where
  -- this many indexes in the list, and what is still to come from a word on
  abbrev pub rest : ℕ → ℕ → ℕ → List ℕ → ℕ → Intersection
  rest steps n count text at = intersect_from l m steps n count text (Some at) (meet l m at)

  -- a call ends with its last step, and with its last index
  pub no_step : (steps n count at : ℕ) (text : List ℕ) (all : Intersection) → rest steps n count text at ≡ all → steps ≡ 0
      → all ≡ record { next = Some at; count = count; text = text }
  no_step zero n count at text all same is = sym same
  no_step (suc steps) n count at text all same is = cc

  pub no_index : (steps n count at : ℕ) (text : List ℕ) (all : Intersection) → rest steps n count text at ≡ all → n ≡ 0
      → all ≡ record { next = Some at; count = count; text = text }
  no_index zero n count at text all same is = sym same
  no_index (suc steps) zero count at text all same is = sym same
  no_index (suc steps) (suc n) count at text all same is = cc

  -- a step, if there is one and an index is still wanted
  step_is : (steps n count at : ℕ) (text : List ℕ) (met : Option (ℕ × Bool)) → 0 < steps → 0 < n → meet l m at ≡ met
      → rest steps n count text at ≡ intersect_from l m (suc (steps - 1)) (suc (n - 1)) count text (Some at) met
  step_is steps n count at text met some wanted is =
      let more : steps ≡ suc (steps - 1) = omega (arith, some) in
      let next : n ≡ suc (n - 1) = omega (arith, wanted) in
      ap (λ o. intersect_from l m steps n count text (Some at) o) is
      ∙ ap (λ k. intersect_from l m k n count text (Some at) met) more
      ∙ ap (λ k. intersect_from l m (suc (steps - 1)) k count text (Some at) met) next

  -- one of the sets has no more
  pub ends : (steps n count at : ℕ) (text : List ℕ) (all : Intersection) → rest steps n count text at ≡ all → 0 < steps → 0 < n
      → meet l m at ≡ None → all ≡ record { next = None; count = count; text = text }
  ends steps n count at text all same some wanted is = sym same ∙ step_is steps n count at text None some wanted is

  -- a word that one of them has
  pub skips : (steps n count at y : ℕ) (text : List ℕ) (all : Intersection) → rest steps n count text at ≡ all → 0 < steps → 0 < n
      → meet l m at ≡ Some (y, false) → rest (steps - 1) n count text y ≡ all
  skips steps n count at y text all same some wanted is =
      let next : n ≡ suc (n - 1) = omega (arith, wanted) in
      ap (λ k. rest (steps - 1) k count text y) next ∙ sym (step_is steps n count at text (Some (y, false)) some wanted is) ∙ same

  -- an index of both that does not fit
  full : (fits : Bool) (steps n count at y : ℕ) (text : List ℕ) → nat_le (length text + length (index_words y)) INTERSECTION_LIMIT ≡ fits
      → fits ≡ false → intersect_from l m (suc steps) (suc n) count text (Some at) (Some (y, true)) ≡ record { next = Some y; count = count; text = text }
  full fits steps n count at y text test is = rw test (rw is refl)

  pub stops : (fits : Bool) (steps n count at y : ℕ) (text : List ℕ) (all : Intersection) → rest steps n count text at ≡ all → 0 < steps → 0 < n
      → meet l m at ≡ Some (y, true) → fits ≡ nat_le (length text + length (index_words y)) INTERSECTION_LIMIT → fits ≡ false
      → all ≡ record { next = Some y; count = count; text = text }
  stops fits steps n count at y text all same some wanted is test over =
      sym same ∙ step_is steps n count at text (Some (y, true)) some wanted is ∙ full fits (steps - 1) (n - 1) count at y text (sym test) over

  -- one that fits
  room : (fits : Bool) (steps n count at y : ℕ) (text : List ℕ) → nat_le (length text + length (index_words y)) INTERSECTION_LIMIT ≡ fits
      → fits ≡ true → intersect_from l m (suc steps) (suc n) count text (Some at) (Some (y, true))
      ≡ intersect_from l m steps n (count + 1) (text ++ index_words y) (behind y) (option_and_then (λ z. meet l m z) (behind y))
  room fits steps n count at y text test is = rw test (rw is refl)

  adds : (fits : Bool) (steps n count at y : ℕ) (text text' : List ℕ) (next : Option ℕ) (all : Intersection) → rest steps n count text at ≡ all
      → 0 < steps → 0 < n → meet l m at ≡ Some (y, true) → fits ≡ nat_le (length text + length (index_words y)) INTERSECTION_LIMIT
      → fits ≡ true → text' ≡ text ++ index_words y → next ≡ behind y
      → intersect_from l m (steps - 1) (n - 1) (count + 1) text' next (option_and_then (λ z. meet l m z) next) ≡ all
  adds fits steps n count at y text text' next all same some wanted is test fit added then =
      ap (λ t. intersect_from l m (steps - 1) (n - 1) (count + 1) t next (option_and_then (λ z. meet l m z) next)) added
      ∙ ap (λ o. intersect_from l m (steps - 1) (n - 1) (count + 1) (text ++ index_words y) o (option_and_then (λ z. meet l m z) o)) then
      ∙ sym (room fits (steps - 1) (n - 1) count at y text (sym test) fit)
      ∙ sym (step_is steps n count at text (Some (y, true)) some wanted is) ∙ same

  pub goes_on : (fits : Bool) (steps n count at y z : ℕ) (text text' : List ℕ) (next : Option ℕ) (all : Intersection)
      → rest steps n count text at ≡ all → 0 < steps → 0 < n → meet l m at ≡ Some (y, true)
      → fits ≡ nat_le (length text + length (index_words y)) INTERSECTION_LIMIT → fits ≡ true → text' ≡ text ++ index_words y
      → next ≡ behind y → next ≡ Some z → rest (steps - 1) (n - 1) (count + 1) text' z ≡ all
  goes_on fits steps n count at y z text text' next all same some wanted is test fit added then there =
      ap (λ o. intersect_from l m (steps - 1) (n - 1) (count + 1) text' o (option_and_then (λ w. meet l m w) o)) (sym there)
      ∙ adds fits steps n count at y text text' next all same some wanted is test fit added then

  -- nothing comes behind the greatest word
  nothing : (steps n count : ℕ) (text : List ℕ) → intersect_from l m steps n count text None None ≡ record { next = None; count = count; text = text }
  nothing zero n count text = refl
  nothing (suc steps) zero count text = refl
  nothing (suc steps) (suc n) count text = refl

  pub greatest : (fits : Bool) (steps n count at y : ℕ) (text text' : List ℕ) (next : Option ℕ) (all : Intersection)
      → rest steps n count text at ≡ all → 0 < steps → 0 < n → meet l m at ≡ Some (y, true)
      → fits ≡ nat_le (length text + length (index_words y)) INTERSECTION_LIMIT → fits ≡ true → text' ≡ text ++ index_words y
      → next ≡ behind y → next ≡ None → all ≡ record { next = None; count = count + 1; text = text' }
  greatest fits steps n count at y text text' next all same some wanted is test fit added then none =
      sym (adds fits steps n count at y text text' next all same some wanted is test fit added then)
      ∙ ap (λ o. intersect_from l m (steps - 1) (n - 1) (count + 1) text' o (option_and_then (λ w. meet l m w) o)) none
      ∙ nothing (steps - 1) (n - 1) (count + 1) text'

-- a text with an index that fits is short enough for a reply
pub room_is_short : (fits : Bool) (text text' t : List ℕ) → fits ≡ nat_le (length text + length t) INTERSECTION_LIMIT → fits ≡ true
    → text' ≡ text ++ t → length text' ≤ INTERSECTION_LIMIT
room_is_short fits text text' t test fit added =
    let most : length text + length t ≤ INTERSECTION_LIMIT = le_of (length text + length t) INTERSECTION_LIMIT (sym test ∙ fit) in
    let long : length text' ≡ length text + length t = ap length added ∙ length-append text t in
    omega (arith, most, long)
