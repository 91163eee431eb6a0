-- Arrays kept by name: writes keep the order, and writing back what was read changes nothing.
use Rattle.std.proofs.Common.{◌≡◌, ℕ, zero, suc, ◌<◌, Bool, true, false, cond, not, ◌&&◌, List, [], ◌∷◌, length, refl, sym}
use Rattle.std.proofs.Common.{◌∙◌, ap, subst, arith, Option, Some, None, Ok, Err, get_or, set}
use Rattle.std.specs.Prelude.{filter, unwrap_or}
use Rattle.std.specs.List.{insert, list_all}
use Rattle.std.specs.declared.cmp.Ordering.TheVariants.{Less, Equal, Greater}
use Rattle.std.specs.Ordering.{eq_by_cmp}
use Rattle.std.specs.Cmp.{IsTotalOrder}
use Rattle.std.specs.Cmp.Lexicographic.{nat_list_cmp_total}
use Rattle.std.specs.FinMap.{find, put, is_sorted}
use Rattle.std.specs.FinMap.Entries.{by_order, is_sorted-put, is_sorted-where_key}
use Rattle.std.proofs.lemmas.Bool.{and_from}
use Rattle.judy_model.specs.Contents.{Order, Entries, string_order, without_key}
use Rattle.judy_model.specs.Tenant.{Arrays, content_of, with_content}
use Rattle.judy_model.specs.WellFormed.{has_entries, is_content}
use Rattle.judy_reference.specs.Store.{AreKept}
use Rattle.judy_reference.proofs.PlaceLemmas.{Stands}
use Rattle.judy_model.proofs.lemmas.StateLemmas.{and_left, and_right}
use Rattle.judy_model.proofs.lemmas.FormLemmas.{all_put, found_passes, names_apart}
use Rattle.judy_model.proofs.lemmas.TestLemmas.{from_T, to_T}

all_true : {A : Type 0} (xs : List A) → list_all (λ x. true) xs ≡ true
all_true [] = refl
all_true (x ∷ xs) = all_true xs

module _ {A : Type 0} (p : A → Bool) where
  -- a filter keeps what holds of each entry
  all-filter : (q : A → Bool) (xs : List A) → list_all p xs ≡ true → list_all p (filter q xs) ≡ true
  all-filter q [] h = refl
  all-filter q (x ∷ xs) h =
      elim (q x) as (λ b. list_all p (cond b (x ∷ filter q xs) (filter q xs)) ≡ true) [
        | true ↦ and_from (p x) _ (and_left (p x) _ h) (all-filter q xs (and_right (p x) _ h))
        | false ↦ all-filter q xs (and_right (p x) _ h)
      ]

  -- an entry that is left out can be replaced
  pub filter-set_out : (xs : List A) (i : ℕ) (y d : A) → i < length xs → p y ≡ false → p (get_or xs i d) ≡ false → filter p (set xs i y) ≡ filter p xs
  filter-set_out [] i y d h new old = absurd (omega arith)
  filter-set_out (x ∷ xs) zero y d h new old = rw (new, old) refl
  filter-set_out (x ∷ xs) (suc i) y d h new old = ap (λ z. cond (p x) (x ∷ z) z) (filter-set_out xs i y d (omega arith) new old)

module _ {K V : Type 0} (R : Order K) where
  -- nothing is left out if the key is absent
  pub filter-absent : (k : K) (es : List (K × V)) → find R k es ≡ None → filter (λ e. not (eq_by_cmp R k e.0)) es ≡ es
  filter-absent k [] none = refl
  filter-absent k (e ∷ es) none = by (eq_by_cmp R k e.0) refl (λ rest. filter-absent k es rest)
    where
      by : (b : Bool) → eq_by_cmp R k e.0 ≡ b → (find R k es ≡ None → filter (λ x. not (eq_by_cmp R k x.0)) es ≡ es)
          → filter (λ x. not (eq_by_cmp R k x.0)) (e ∷ es) ≡ e ∷ es
      by true is more = let found : Some e.1 ≡ None = rw is at none in cc
      by false is more = let rest : find R k es ≡ None = rw is at none in rw is (ap (λ z. e ∷ z) (more rest))

module _ {K : Type 0} (R : Order K) (total : IsTotalOrder R) where
  pub put_held : (k : K) (v : ℕ) (es : Entries K) → has_entries (put R k v es) ≡ true
  put_held k v [] = refl
  put_held k v (e ∷ es) =
      elim (R k e.0) as (λ r. has_entries (by_order r ((k, v) ∷ e ∷ es) ((e.0, v) ∷ es) (e ∷ put R k v es)) ≡ true)
      [ Less ↦ refl | Equal ↦ refl | Greater ↦ refl ]

  pub put_sorted : (k : K) (v : ℕ) (es : Entries K) → is_sorted R es ≡ true → is_sorted R (put R k v es) ≡ true
  put_sorted k v es h = from_T _ (is_sorted-put R total k v es (to_T _ h))

  pub without_sorted : (k : K) (es : Entries K) → is_sorted R es ≡ true → is_sorted R (filter (λ e. not (eq_by_cmp R k e.0)) es) ≡ true
  without_sorted k es h = from_T _ (is_sorted-where_key R (λ x. not (eq_by_cmp R k x)) es (to_T _ h))

module _ {K : Type 0} where
  -- an array with entries is written, not removed
  pub with_content-held : (arrays : Arrays K) (name : List ℕ) (l : Entries K) → has_entries l ≡ true → with_content arrays name l
      ≡ put string_order name l arrays
  with_content-held arrays name [] h = cc
  with_content-held arrays name (e ∷ es) h = refl

  module _ (R : Order K) where
    pub names_rise : (arrays : Arrays K) → AreKept R arrays → is_sorted string_order arrays ≡ true
    names_rise arrays kept = and_left (is_sorted string_order arrays) _ kept

    -- an array that has entries with increasing keys
    abbrev is_good : List ℕ × Entries K → Bool
    is_good a = has_entries a.1 && is_content R (λ e. true) a.1

    each_good : (arrays : Arrays K) → AreKept R arrays → list_all is_good arrays ≡ true
    each_good arrays kept = and_right (is_sorted string_order arrays) _ kept

    pub content_sorted : (arrays : Arrays K) (name : List ℕ) → AreKept R arrays → is_sorted R (content_of arrays name) ≡ true
    content_sorted arrays name kept = by (find string_order name arrays) refl
      where
        by : (had : Option (Entries K)) → find string_order name arrays ≡ had → is_sorted R (unwrap_or had []) ≡ true
        by (Some l) is = and_left (is_sorted R l) _
            (and_right (has_entries l) _ (found_passes string_order names_apart is_good name l arrays (each_good arrays kept) is))
        by None is = refl

    pub kept-with_content : (arrays : Arrays K) (name : List ℕ) (l : Entries K) → AreKept R arrays → is_sorted R l ≡ true
        → AreKept R (with_content arrays name l)
    kept-with_content arrays name [] kept sorted =
        and_from (is_sorted string_order (with_content arrays name [])) _
        (from_T _ (is_sorted-where_key string_order (λ n. not (eq_by_cmp string_order name n)) arrays (to_T _ (names_rise arrays kept))))
        (all-filter is_good (λ a. not (eq_by_cmp string_order name a.0)) arrays (each_good arrays kept))
    kept-with_content arrays name (e ∷ es) kept sorted =
        and_from (is_sorted string_order (with_content arrays name (e ∷ es))) _
        (from_T _ (is_sorted-put string_order nat_list_cmp_total name (e ∷ es) arrays (to_T _ (names_rise arrays kept))))
        (all_put string_order names_apart is_good name (e ∷ es) arrays (and_from (is_sorted R (e ∷ es)) _ sorted (all_true es)) (each_good arrays kept))

pub held_unless : {K : Type 0} (l : Entries K) → (l ≡ [] → ⊥) → has_entries l ≡ true
held_unless [] h = absurd (h refl)
held_unless (e ∷ es) h = refl

-- a write keeps the arrays well-formed
pub kept-from : {K : Type 0} (R : Order K) (arrays new : Arrays K) (name : List ℕ) (l : Entries K) → new ≡ with_content arrays name l
    → AreKept R arrays → is_sorted R l ≡ true → AreKept R new
kept-from R arrays new name l is kept sorted = subst (AreKept R) (sym is) (kept-with_content R arrays name l kept sorted)

-- ---- an array at the place of its name
module _ {K : Type 0} (R : Order K) (total : IsTotalOrder R) (arrays : Arrays K) (name : List ℕ) (i : ℕ) where
  pub content-at : (a : List ℕ × Entries K) → Stands string_order name arrays (Ok i) → a ≡ get_or arrays i a → content_of arrays name ≡ a.1
  content-at a h is = ap (λ o. unwrap_or o []) (h.1 a) ∙ ap (λ z. z.1) (sym is)

  pub content-none : Stands string_order name arrays (Err i) → AreKept R arrays → content_of arrays name ≡ []
  content-none h kept = ap (λ o. unwrap_or o []) (h.1 (names_rise R arrays kept))

  held-at : (a : List ℕ × Entries K) (l : Entries K) → Stands string_order name arrays (Ok i) → a ≡ get_or arrays i a → has_entries l ≡ true
      → set arrays i (a.0, l) ≡ with_content arrays name l
  held-at a l h is held = ap (λ z. set arrays i (z.0, l)) is ∙ sym (h.2 a l) ∙ sym (with_content-held arrays name l held)

  -- a key is written to an array that is present, or to a new one
  pub put-at : (a : List ℕ × Entries K) (l : Entries K) (k : K) (v : ℕ) → Stands string_order name arrays (Ok i) → a ≡ get_or arrays i a → l ≡ put R k v a.1
      → set arrays i (a.0, l) ≡ with_content arrays name (put R k v (content_of arrays name))
  put-at a l k v h is new =
      held-at a l h is (ap has_entries new ∙ put_held R total k v a.1)
      ∙ ap (with_content arrays name) (new ∙ ap (put R k v) (sym (content-at a h is)))

  pub put-new : (l : Entries K) (k : K) (v : ℕ) → Stands string_order name arrays (Err i) → AreKept R arrays → l ≡ put R k v []
      → insert arrays i (name, l) ≡ with_content arrays name (put R k v (content_of arrays name))
  put-new l k v h kept new =
      sym (h.2 l) ∙ sym (with_content-held arrays name l (ap has_entries new))
      ∙ ap (with_content arrays name) (new ∙ ap (put R k v) (sym (content-none h kept)))

  -- a key is removed: entries remain, none remain, or the array is absent
  pub without-at : (a : List ℕ × Entries K) (l : Entries K) (k : K) → Stands string_order name arrays (Ok i) → a ≡ get_or arrays i a → l ≡ without_key R a.1 k
      → has_entries l ≡ true → set arrays i (a.0, l) ≡ with_content arrays name (without_key R (content_of arrays name) k)
  without-at a l k h is new held =
      held-at a l h is held ∙ ap (with_content arrays name) (new ∙ ap (λ z. without_key R z k) (sym (content-at a h is)))

  pub without-last : (a : List ℕ × Entries K) (l : Entries K) (k : K) → Stands string_order name arrays (Ok i) → a ≡ get_or arrays i a → l ≡ without_key R a.1 k
      → l ≡ [] → filter (λ x. not (eq_by_cmp string_order name x.0)) (set arrays i (a.0, l)) ≡ with_content arrays name
      (without_key R (content_of arrays name) k)
  without-last a l k h is new none =
      let tied : eq_by_cmp string_order name a.0 ≡ true = ap (λ z. eq_by_cmp string_order name z.0) is ∙ h.3 a in
      filter-set_out (λ x. not (eq_by_cmp string_order name x.0)) arrays i (a.0, l) a h.0 (ap not tied) (ap not (h.3 a))
      ∙ ap (with_content arrays name) (sym none ∙ new ∙ ap (λ z. without_key R z k) (sym (content-at a h is)))

  pub without-none : (k : K) → Stands string_order name arrays (Err i) → AreKept R arrays → arrays ≡ with_content arrays name
      (without_key R (content_of arrays name) k)
  without-none k h kept =
      sym (filter-absent string_order name arrays (h.1 (names_rise R arrays kept)))
      ∙ ap (λ z. with_content arrays name (without_key R z k)) (sym (content-none h kept))
