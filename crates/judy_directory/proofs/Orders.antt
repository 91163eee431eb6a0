-- The set of the table's names, as it changes with the table; and its first name from a start on.
--     order-none        no entries, no names
--     order-same        the table is in another order
--     order-put         a present key gets another place
--     order-adds        a new key
--     order-takes       a key is removed
--     order-undone      a key was added to the set alone, and is removed from it
--     order-staying     the names of some tenants are forgotten
--     range-none        the part of the set that is on is empty
--     range-least       its first name is least
use Rattle.std.proofs.Common.{◌≡◌, ℕ, Bool, true, false, not, cond, ◌&&◌, List, [], ◌∷◌, Option, Some, None, is_some, ap, sym, ◌∙◌, refl, subst, filter}
use Rattle.std.proofs.lemmas.Bool.{false≢true}
use Rattle.std.proofs.lemmas.Map.Made.{is_member-filter}
use Rattle.std.specs.BTreeMap.Range.{IsInRange}
use Rattle.std.specs.BTreeSet.{BTreeSet, contains, IsKeyRangeOf}
use Rattle.std.specs.Cmp.{eq_by_cmp_equiv}
use Rattle.std.specs.declared.cmp.Ordering.{Ordering}
use Rattle.std.specs.declared.cmp.Ordering.TheVariants.{Less, Equal, Greater}
use Rattle.std.specs.declared.collections.Bound.{Bound}
use Rattle.std.specs.declared.collections.Bound.TheVariants.{Unbounded}
use Rattle.std.specs.declared.result.Result.{Result}
use Rattle.std.specs.declared.result.Result.TheVariants.{Ok, Err}
use Rattle.std.specs.Result.{OnOk, OnErr, is_err}
use Rattle.std.specs.Ordering.{eq_by_cmp, is_gt, is_ge, ordering_reverse}
use Rattle.judy_model.specs.Contents.{string_order}
use Rattle.judy_model.proofs.lemmas.EntryLemmas.{same_string}
use Rattle.judy_directory.specs.Kinds.{is_gone, is_staying}
use Rattle.judy_directory.specs.Order.{is_on, bound_from, IsLeast, IsOrderOf}
use Rattle.judy_directory.specs.Places.{Stand}
use Rattle.judy_directory.specs.Rooms.{alike, look_up, staying}
use Rattle.judy_directory.proofs.Leaving.{some_of, look-staying}
use Rattle.judy_directory.proofs.Listed.{alike-tied}
use Rattle.judy_directory.proofs.Rooms.{one}
use Rattle.judy_directory.proofs.RecentPlaces.{none_of}
use Rattle.judy_directory.proofs.lemmas.Changes.{total}

-- what an answer that is no error promises, and an error
pub on_ok : {T E P : Type 0} (r : Result T E) → is_err r ≡ false → OnOk r P → P
on_ok (Ok x) e h = h
on_ok (Err x) e h = absurd (false≢true (sym e))

pub on_err : {T E P : Type 0} (r : Result T E) → is_err r ≡ true → OnErr r P → P
on_err (Ok x) e h = absurd (false≢true e)
on_err (Err x) e h = h

-- the set after it has the key too, and after it has it no more
abbrev pub HasToo : BTreeSet (List ℕ) → BTreeSet (List ℕ) → List ℕ → Type 0
HasToo s t k = (q : List ℕ) → contains string_order t q ≡ cond (eq_by_cmp string_order k q) true (contains string_order s q)

abbrev pub HasNoMore : BTreeSet (List ℕ) → BTreeSet (List ℕ) → List ℕ → Type 0
HasNoMore s t k = (q : List ℕ) → contains string_order t q ≡ cond (eq_by_cmp string_order k q) false (contains string_order s q)

-- the entries after the key gets a place
abbrev pub GetsPlace : List (List ℕ × Stand) → List (List ℕ × Stand) → Stand → List ℕ → Type 0
GetsPlace es es' v k = (q : List ℕ) → look_up q es' ≡ cond (alike k q) (Some v) (look_up q es)

none_of_choice : (b : Bool) (o : Option Stand) → is_some (cond b None o) ≡ cond b false (is_some o)
none_of_choice true o = refl
none_of_choice false o = refl

staying_of_choice : (b : Bool) (o : Option Stand) → (is_some o && not b) ≡ is_some (cond b None o)
staying_of_choice true None = refl
staying_of_choice true (Some x) = refl
staying_of_choice false None = refl
staying_of_choice false (Some x) = refl

-- no entries, no names
pub order-none : (es : List (List ℕ × Stand)) (s : BTreeSet (List ℕ)) → es ≡ [] → s.keys ≡ [] → IsOrderOf es s
order-none es s none empty = λ q.
    ap (λ l. contains string_order (record s { keys = l }) q) empty ∙ sym (ap (λ l. is_some (look_up q l)) none)

module _ (es es' : List (List ℕ × Stand)) (s : BTreeSet (List ℕ)) (o : IsOrderOf es s) where
  -- the table is in another order
  pub order-same : ((q : List ℕ) → look_up q es' ≡ look_up q es) → IsOrderOf es' s
  order-same h = λ q. o q ∙ sym (ap is_some (h q))

  -- the names of some tenants are forgotten
  pub order-staying : (gone : List Bool) (s' : BTreeSet (List ℕ)) → es' ≡ staying gone es → s'.keys ≡ filter (is_staying gone) s.keys → IsOrderOf es' s'
  order-staying gone s' e k = λ q.
      ap (λ l. contains string_order (record s' { keys = l }) q) k
      ∙ is_member-filter (eq_by_cmp_equiv total) (is_staying gone) q (λ x t. ap (is_staying gone) (same_string q x t)) s.keys
      ∙ ap (λ b. b && is_staying gone q) (o q)
      ∙ staying_of_choice (is_gone gone q) (look_up q es)
      ∙ sym (ap is_some (ap (look_up q) e ∙ look-staying gone q es))

  module _ (k : List ℕ) where
    -- a present key gets another place
    pub order-put : (v : Stand) → is_some (look_up k es) ≡ true → GetsPlace es es' v k → IsOrderOf es' s
    order-put v there h = λ q. by q (alike k q) refl ∙ sym (ap is_some (h q))
      where
        by : (q : List ℕ) (b : Bool) → alike k q ≡ b → contains string_order s q ≡ is_some (cond (alike k q) (Some v) (look_up q es))
        by q true e = o q ∙ ap (λ x. is_some (look_up x es)) (sym (one k q e)) ∙ there ∙ sym (ap (λ b. is_some (cond b (Some v) (look_up q es))) e)
        by q false e = o q ∙ sym (ap (λ b. is_some (cond b (Some v) (look_up q es))) e)

    -- a new key
    pub order-adds : (v : Stand) (s' : BTreeSet (List ℕ)) → HasToo s s' k → GetsPlace es es' v k → IsOrderOf es' s'
    order-adds v s' a h = λ q.
        a q ∙ ap (λ b. cond b true (contains string_order s q)) (sym (alike-tied k q)) ∙ ap (cond (alike k q) true) (o q)
        ∙ sym (some_of (alike k q) v (look_up q es)) ∙ sym (ap is_some (h q))

    -- a key is removed
    pub order-takes : (s' : BTreeSet (List ℕ)) → HasNoMore s s' k
        → ((q : List ℕ) → look_up q es' ≡ cond (alike k q) None (look_up q es)) → IsOrderOf es' s'
    order-takes s' a h = λ q.
        a q ∙ ap (λ b. cond b false (contains string_order s q)) (sym (alike-tied k q)) ∙ ap (cond (alike k q) false) (o q)
        ∙ sym (none_of_choice (alike k q) (look_up q es)) ∙ sym (ap is_some (h q))

    -- a key was added to the set alone, and is removed from it
    pub order-undone : (t u : BTreeSet (List ℕ)) → look_up k es ≡ None → es' ≡ es → HasToo s t k → HasNoMore t u k → IsOrderOf es' u
    order-undone t u none same a b = λ q.
        b q ∙ ap (cond (eq_by_cmp string_order k q) false) (a q) ∙ by q (eq_by_cmp string_order k q) refl ∙ sym (ap (λ l. is_some (look_up q l)) same)
      where
        by : (q : List ℕ) (c : Bool) → eq_by_cmp string_order k q ≡ c
            → cond c false (cond c true (contains string_order s q)) ≡ is_some (look_up q es)
        by q true e = sym (ap (λ x. is_some (look_up x es)) (sym (same_string k q e)) ∙ ap is_some none)
        by q false e = o q

-- ---- the part of the set that is on

-- a comparison from the other side
from_ge : (r : Ordering) → is_ge r ≡ true → is_gt (ordering_reverse r) ≡ false
from_ge Less h = absurd (false≢true h)
from_ge Equal h = refl
from_ge Greater h = refl

to_ge : (r : Ordering) → is_gt (ordering_reverse r) ≡ false → is_ge r ≡ true
to_ge Less h = sym h
to_ge Equal h = refl
to_ge Greater h = refl

from_gt : (r : Ordering) → is_gt r ≡ true → ordering_reverse r ≡ Less
from_gt Less h = absurd (false≢true h)
from_gt Equal h = absurd (false≢true h)
from_gt Greater h = refl

-- the keys of the range are those that are on
in_range : (itself : Bool) (start q : List ℕ) → is_on itself start q ≡ true → IsInRange string_order (bound_from itself start) Unbounded q
in_range true start q h = (ap is_gt (total.antisymm start q) ∙ from_ge (string_order q start) h, tt)
in_range false start q h = (total.antisymm start q ∙ from_gt (string_order q start) h, tt)

on_range : (itself : Bool) (start q : List ℕ) → IsInRange string_order (bound_from itself start) Unbounded q → is_on itself start q ≡ true
on_range true start q h = to_ge (string_order q start) (ap is_gt (sym (total.antisymm start q)) ∙ h.0)
on_range false start q h = ap is_gt (total.antisymm q start ∙ ap ordering_reverse h.0)

module _ (itself : Bool) (start : List ℕ) (es : List (List ℕ × Stand)) (s : BTreeSet (List ℕ)) (o : IsOrderOf es s) (r : List (List ℕ))
    (b : Bound (List ℕ)) (from : b ≡ bound_from itself start) (is : IsKeyRangeOf string_order b Unbounded s r) where
  -- the range, between the bounds that contracts see
  ranged : IsKeyRangeOf string_order (bound_from itself start) Unbounded s r
  ranged = subst (λ x. IsKeyRangeOf string_order x Unbounded s r) from is

  -- that part is empty
  pub range-none : r ≡ [] → IsLeast (is_on itself start) (λ q. look_up q es) None
  range-none none = λ q t. none_of (look_up q es) (sym (o q) ∙ ranged.5 none q (in_range itself start q t))

  -- its first name is least
  pub range-least : (k : List ℕ) (more : List (List ℕ)) (p : Stand) → r ≡ k ∷ more → look_up k es ≡ Some p
      → IsLeast (is_on itself start) (λ q. look_up q es) (Some (k, p))
  range-least k more p e found =
      let here = subst (IsKeyRangeOf string_order (bound_from itself start) Unbounded s) e ranged in
      (on_range itself start k here.1.0, found, λ q t i. here.2 q (in_range itself start q t) (o q ∙ i))
