-- A table that has all tenants in force.
--     place-stays  a place keeps its arrays and its name when a table that has all tenants is put in force
--     name-of      the name of a place, by its row; quota-of, tenant-of, so are its quota and whether it has a tenant
use Rattle.std.proofs.Common.{◌≡◌, ◌∙◌, ◌⊎◌, inl, inr, ◌||◌, ℕ, zero, suc, Bool, true, false, not, List, [], ◌∷◌}
use Rattle.std.proofs.Common.{length, Option, Some, None, ap, arith, refl, subst, sym}
use Rattle.std.specs.Prelude.{map, option_map, slice_get, unwrap_or}
use Rattle.std.specs.List.{AllByRecursion}
use Rattle.std.specs.FinMap.{is_sorted}
use Rattle.std.proofs.lemmas.Bool.{and_parts}
use Rattle.std.proofs.lemmas.List.Elements.{recursion_from_All}
use Rattle.std.proofs.lemmas.List.Sums.{sum_by-cons}
use Rattle.std.proofs.lemmas.Option.{slice_get-map, unwrap_or-slice_get}
use Rattle.judy_model.specs.Contents.{Order, string_order, word_order}
use Rattle.judy_model.specs.Tenant.{Arrays, State, entries_in, no_arrays}
use Rattle.judy_model.specs.WellFormed.{IsWellFormed, IsWithin, are_arrays, is_bytes_entry, is_long_entry, is_one_entry, is_string_entry}
use Rattle.judy_model.specs.declared.quotas.Quota.{Quota}
use Rattle.judy_table.specs.declared.tenant.Tenant.{Tenant}
use Rattle.judy_table.specs.Seats.{AreRows, has_name, name_at, seat_of, seated}
use Rattle.judy_table.proofs.lemmas.Seats.{seat-name}
use Rattle.judy_table.specs.Tenants.{is_vacant, vacant}
use Rattle.judy_tenants.specs.Changes.{HasChanged, has_tenant}
use Rattle.judy_tenants.specs.Held.{Held, IsSoundService, no_quota, quotas_of, states_of}
use Rattle.judy_tenants.proofs.lemmas.Changed.{new-has-none, stays-named}
use Rattle.judy_server.specs.Reloads.{has_all, is_kept}

-- ---- a place without a tenant

-- well-formed arrays without entries are none
none-in : {K : Type 0} (order : Order K) (is_entry : K × ℕ → Bool) (arrays : Arrays K) → are_arrays order is_entry arrays ≡ true
    → entries_in arrays ≡ 0 → arrays ≡ []
none-in order is_entry [] form none = refl
none-in order is_entry ((name, []) ∷ arrays) form none = let no = (and_parts (is_sorted string_order ((name, []) ∷ arrays)) false form).1 in cc
none-in order is_entry ((name, e ∷ es) ∷ arrays) form none =
    let more = sum_by-cons (λ a. length a.1) (name, e ∷ es) arrays in absurd (omega (arith, more, none))

-- a well-formed tenant with a quota of 0 has no arrays
pub none-within : (quota : Quota) (s : State) → IsWellFormed s → IsWithin quota s → quota.entries ≡ 0 → s ≡ no_arrays
none-within quota s form within none =
    let most = within.0 in
    ap (λ (a : Arrays ℕ). record s { one = a }) (none-in word_order is_one_entry s.one form.one (omega (arith, most, none)))
    ∙ ap (λ (a : Arrays ℕ). record s { one = []; long = a }) (none-in word_order is_long_entry s.long form.long (omega (arith, most, none)))
    ∙ ap (λ (a : Arrays (List ℕ)). record s { one = []; long = []; string = a })
    (none-in string_order is_string_entry s.string form.string (omega (arith, most, none)))
    ∙ ap (λ (a : Arrays (List ℕ)). record s { one = []; long = []; string = []; bytes = a })
    (none-in string_order is_bytes_entry s.bytes form.bytes (omega (arith, most, none)))

-- a vacant row has no quota and no name
pub vacant-row : (ts : List Tenant) → AllByRecursion (λ r. is_vacant r ≡ true → r ≡ vacant) ts → (t : ℕ) (r : Tenant) → slice_get ts t ≡ Some r
    → is_vacant r ≡ true → r ≡ vacant
vacant-row [] each t r h v = cc
vacant-row (s ∷ ts) each zero r h v = let same : s ≡ r = cc in subst (λ u. is_vacant u ≡ true → u ≡ vacant) same each.0 v
vacant-row (s ∷ ts) each (suc t) r h v = vacant-row ts each.1 t r h v

-- ---- what a place shows, by its row

pub name-of : (ts : List Tenant) (t : ℕ) (o : Option Tenant) → slice_get ts t ≡ o
    → name_at ts t ≡ unwrap_or (option_map (λ (r : Tenant). r.name) o) []
name-of ts t o h =
    ap (λ (x : Option (List ℕ)). unwrap_or x [])
    (slice_get-map (λ (r : Tenant). r.name) ts t ∙ ap (option_map (λ (r : Tenant). r.name)) h)

pub quota-of : (ts : List Tenant) (t : ℕ) (o : Option Tenant) → slice_get ts t ≡ o
    → quotas_of ts t ≡ unwrap_or (option_map (λ (r : Tenant). r.quota) o) no_quota
quota-of ts t o h =
    sym (unwrap_or-slice_get (map (λ (r : Tenant). r.quota) ts) t no_quota)
    ∙ ap (λ (x : Option Quota). unwrap_or x no_quota)
    (slice_get-map (λ (r : Tenant). r.quota) ts t ∙ ap (option_map (λ (r : Tenant). r.quota)) h)

pub tenant-of : (ts : List Tenant) (t : ℕ) (o : Option Tenant) → slice_get ts t ≡ o
    → has_tenant ts t ≡ unwrap_or (option_map not (option_map is_vacant o)) false
tenant-of ts t o h = ap (λ (x : Option Bool). unwrap_or (option_map not x) false) (slice_get-map is_vacant ts t ∙ ap (option_map is_vacant) h)

-- each row is kept
kept-row : (table rows : List Tenant) (t : ℕ) (r : Tenant) → has_all rows table ≡ true → slice_get rows t ≡ Some r → is_kept table r ≡ true
kept-row table [] t r all h = cc
kept-row table (s ∷ rows) zero r all h =
    let same : s ≡ r = cc in ap (is_kept table) (sym same) ∙ (and_parts (is_kept table s) (has_all rows table) all).0
kept-row table (s ∷ rows) (suc t) r all h = kept-row table rows t r (and_parts (is_kept table s) (has_all rows table) all).1 h

-- ---- all places

-- a place keeps its arrays and its name
abbrev pub KeepsPlace : Held → Held → ℕ → Type 0
KeepsPlace old new t =
    (states_of new t ≡ states_of old t) × ((name_at old.tenants t ≡ []) ⊎ (name_at new.tenants t ≡ name_at old.tenants t))

module _ (table : List Tenant) (old new : Held) (sound : IsSoundService old) (rows : AreRows old.tenants)
    (seats : new.tenants ≡ seated old.tenants table) (changed : HasChanged old new) (all : has_all old.tenants table ≡ true) where
  -- a place without a tenant had no arrays, and has none
  stays-empty : (t : ℕ) → has_tenant old.tenants t ≡ false → (quotas_of old.tenants t).entries ≡ 0 → states_of new t ≡ states_of old t
  stays-empty t none quota =
      new-has-none table old new seats changed t none
      ∙ sym (none-within (quotas_of old.tenants t) (states_of old t) (sound.form t) (sound.within t) quota)

  row-stays : (t : ℕ) (r : Tenant) → slice_get old.tenants t ≡ Some r → (b : Bool) → is_vacant r ≡ b → KeepsPlace old new t
  row-stays t r here true v =
      let is = vacant-row old.tenants (recursion_from_All (λ u. is_vacant u ≡ true → u ≡ vacant) old.tenants rows.empty) t r here v in (
        stays-empty t (tenant-of old.tenants t (Some r) here ∙ ap not v)
            (ap (λ (q : Quota). q.entries) (quota-of old.tenants t (Some r) here) ∙ ap (λ (u : Tenant). u.quota.entries) is),
        inl (name-of old.tenants t (Some r) here ∙ ap (λ (u : Tenant). u.name) is),
      )
  row-stays t r here false v =
      let named : has_name r.name table ≡ true = sym (ap (λ b. b || has_name r.name table) v) ∙ kept-row table old.tenants t r all here in
      let (row, states, sizes) = stays-named table old new seats changed t r here v named in (
        states,
        inr (name-of new.tenants t (Some (seat_of r table)) row ∙ seat-name r table named ∙ sym (name-of old.tenants t (Some r) here)),
      )

  pub place-stays : (t : ℕ) (o : Option Tenant) → slice_get old.tenants t ≡ o → KeepsPlace old new t
  place-stays t None here = (
    stays-empty t (tenant-of old.tenants t None here) (ap (λ (q : Quota). q.entries) (quota-of old.tenants t None here)),
    inl (name-of old.tenants t None here),
  )
  place-stays t (Some r) here = row-stays t r here (is_vacant r) refl
