-- Whether a table has all tenants in force, one place after another.
use Rattle.std.proofs.Common.{◌≡◌, ◌∙◌, ◌+◌, ◌||◌, ℕ, zero, suc, Bool, true, false, cond, List, [], ◌∷◌, Some, ap, map, refl, sym}
use Rattle.std.specs.Prelude.{is_some, slice_get}
use Rattle.std.specs.Str.{bytes_eq}
use Rattle.std.proofs.lemmas.Iterator.Adapters.{position_from-zero}
use Rattle.std.specs.List.{position_from}
use Rattle.judy_table.specs.declared.tenant.Tenant.{Tenant}
use Rattle.std.proofs.lemmas.Slice.Eq.{bytes_eq-Decides}
use Rattle.judy_table.specs.Seats.{has_name, name_at}
use Rattle.judy_table.specs.Tenants.{is_vacant, place_of}
use Rattle.judy_server.specs.Reloads.{is_kept}

-- a name has a place exactly if some row has it
named-placed : (name : List ℕ) (ts : List Tenant) → is_some (place_of name ts) ≡ has_name name ts
named-placed name ts = ap is_some (position_from-zero is_it ts) ∙ from 0 ts
  where
    is_it : Tenant → Bool
    is_it t = bytes_eq t.name name

    from : (place : ℕ) (ts : List Tenant) → is_some (position_from is_it place ts) ≡ has_name name ts
    from place [] = refl
    from place (t ∷ ts) = by (is_it t) (from (place + 1) ts)
      where
        by : (b : Bool) → is_some (position_from is_it (place + 1) ts) ≡ has_name name ts
            → is_some (cond b (Some place) (position_from is_it (place + 1) ts)) ≡ (b || has_name name ts)
        by true e = refl
        by false e = e

-- a name that some row has is the name at a place
named-at : (name : List ℕ) (ts : List Tenant) → has_name name ts ≡ true → (t : ℕ) × (name_at ts t ≡ name)
named-at name [] h = absurd (never h)
  where
    never : false ≡ true → ⊥
    never e = cc
named-at name (r ∷ ts) h = by (λ g. named-at name ts g) (bytes_eq r.name name) refl h
  where
    by : (has_name name ts ≡ true → (t : ℕ) × (name_at ts t ≡ name)) → (b : Bool) → bytes_eq r.name name ≡ b → (b || has_name name ts) ≡ true
        → (t : ℕ) × (name_at (r ∷ ts) t ≡ name)
    by later true e g = (0, (bytes_eq-Decides r.name name).0 e)
    by later false e g = let (t, is) = later g in (suc t, is)

-- where no row has it, only the empty name is the name at a place
unnamed-at : (name : List ℕ) (ts : List Tenant) (t : ℕ) → name_at ts t ≡ name → has_name name ts ≡ false → name ≡ []
unnamed-at name [] t e h = sym e
unnamed-at name (r ∷ ts) zero e h = absurd (never (sym (ap (λ b. b || has_name name ts) ((bytes_eq-Decides r.name name).1 e)) ∙ h))
  where
    never : true ≡ false → ⊥
    never e = cc
unnamed-at name (r ∷ ts) (suc t) e h = unnamed-at name ts t e (rest (bytes_eq r.name name) h)
  where
    rest : (b : Bool) → (b || has_name name ts) ≡ false → has_name name ts ≡ false
    rest true g = absurd (never g)
      where
        never : true ≡ false → ⊥
        never e = cc
    rest false g = g

-- whether a tenant has a name
pub tells_name : (name : List ℕ) (ts : List Tenant) (has : Bool) → has ≡ is_some (place_of name ts)
    → (has ≡ true → (t : ℕ) × (name_at ts t ≡ name)) × (has ≡ false → (t : ℕ) × (name_at ts t ≡ name) → name ≡ [])
tells_name name ts has is = (
  λ e. named-at name ts (sym (is ∙ named-placed name ts) ∙ e),
  λ e (t, at). unnamed-at name ts t at (sym (is ∙ named-placed name ts) ∙ e),
)

-- a place without a tenant is kept
pub kept_vacant : (table rows : List Tenant) (t : ℕ) → slice_get (map is_vacant rows) t ≡ Some true → slice_get (map (is_kept table) rows) t ≡ Some true
kept_vacant table [] t v = cc
kept_vacant table (r ∷ rows) zero v = let is : is_vacant r ≡ true = cc in ap (λ b. Some (b || has_name r.name table)) is
kept_vacant table (r ∷ rows) (suc t) v = kept_vacant table rows t v

-- another one is kept if its name is found
pub kept_named : (table rows : List Tenant) (t : ℕ) (name : List ℕ) (found : Bool) → slice_get (map is_vacant rows) t ≡ Some false
    → slice_get (map (λ (r : Tenant). r.name) rows) t ≡ Some name → found ≡ is_some (place_of name table)
    → slice_get (map (is_kept table) rows) t ≡ Some found
kept_named table [] t name found v n f = cc
kept_named table (r ∷ rows) zero name found v n f =
    let is : is_vacant r ≡ false = cc in
    let named : r.name ≡ name = cc in
    ap (λ b. Some (b || has_name r.name table)) is
    ∙ ap Some (ap (λ x. has_name x table) named ∙ sym (named-placed name table) ∙ sym f)
kept_named table (r ∷ rows) (suc t) name found v n f = kept_named table rows t name found v n f
