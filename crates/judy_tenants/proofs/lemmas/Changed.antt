-- What becomes of the tenants when a table is put in force, in the words of the table.
--     keeps-or-empties   each tenant keeps its arrays, or has none
--     log-ins-are        a log-in gives the right that the table gives, for a tenant that is frozen as before
--     log-ins-stay       so it gives the right that the table gives, if the tenant is not frozen
--     stays-named        a tenant whose name the table has keeps its place, its arrays and their words
--     gone-named         the place of a tenant whose name it does not have is vacant, and has no arrays
--     new-has-none       a place that had no tenant has no arrays
--     vacant-has-none    a place that has no tenant has no arrays
--     granted-rises      what the quotas allow never falls
use Rattle.std.proofs.Common.{◌≡◌, ◌⊎◌, inl, inr, ℕ, ◌≤◌, ◌==◌, ◌&&◌, Bool, true, false, not, List, length, Option, Some, None, ap, ◌∙◌, refl, arith}
use Rattle.std.specs.Prelude.{option_map, unwrap_or}
use Rattle.std.specs.List.{slice_get}
use Rattle.std.proofs.lemmas.Option.{slice_get-map}
use Rattle.judy_model.specs.Tenant.{no_arrays}
use Rattle.judy_table.specs.declared.tenant.Tenant.{Tenant}
use Rattle.sha2.specs.Sha256.{sha256}
use Rattle.judy_table.specs.Tenants.{is_vacant, vacant, right_of}
use Rattle.judy_table.specs.Seats.{has_name, row_of, seat_of, row_after, seated, right_in}
use Rattle.judy_table.proofs.lemmas.Seats.{right-after, same-right, seat-name, stays-at, left-vacant}
use Rattle.judy_tenants.specs.Held.{Held, states_of, sizes_of, words_for}
use Rattle.judy_tenants.specs.Changes.{has_tenant, stays_at, HasChanged}

-- whether the tenant of a row has its place
tenant-at : (ts : List Tenant) (t : ℕ) (r : Tenant) → slice_get ts t ≡ Some r → has_tenant ts t ≡ not (is_vacant r)
tenant-at ts t r h = ap (λ (o : Option Bool). unwrap_or (option_map not o) false) (slice_get-map is_vacant ts t ∙ ap (option_map is_vacant) h)

-- a test that fails
fails : (a b : Bool) → b ≡ false → (a && b) ≡ false
fails true b e = e
fails false b e = refl

module _ (table : List Tenant) (old new : Held) (rows : new.tenants ≡ seated old.tenants table) (changed : HasChanged old new) where
  -- each tenant keeps its arrays, or has none
  pub keeps-or-empties : (t : ℕ) → (states_of new t ≡ states_of old t) ⊎ (states_of new t ≡ no_arrays)
  keeps-or-empties t = by (stays_at old.tenants new.tenants t) refl
    where
      by : (b : Bool) → stays_at old.tenants new.tenants t ≡ b → (states_of new t ≡ states_of old t) ⊎ (states_of new t ≡ no_arrays)
      by true e = inl (changed.stays t e).0
      by false e = inr (changed.gone t e)

  -- a log-in gives the right that the table gives, for a tenant that is frozen as before
  pub log-ins-are : (name token : List ℕ) → right_in name token new.tenants ≡ right_of (sha256 token) (row_after name old.tenants table)
  log-ins-are name token = ap (right_in name token) rows ∙ right-after name token old.tenants table

  -- so it gives the right that the table gives, if the tenant is not frozen
  pub log-ins-stay : (name token : List ℕ) → (row_of name old.tenants).frozen ≡ None → (row_of name table).frozen ≡ None
      → right_in name token new.tenants ≡ right_in name token table
  log-ins-stay name token e f = ap (right_in name token) rows ∙ same-right name token old.tenants table e f

  module _ (t : ℕ) (r : Tenant) (here : slice_get old.tenants t ≡ Some r) (some : is_vacant r ≡ false) where
    row : slice_get new.tenants t ≡ Some (seat_of r table)
    row = ap (λ ts. slice_get ts t) rows ∙ stays-at old.tenants table t r here some

    -- a tenant whose name the table has keeps its place, its arrays and their words
    pub stays-named : has_name r.name table ≡ true
        → (slice_get new.tenants t ≡ Some (seat_of r table)) × (states_of new t ≡ states_of old t) × (sizes_of new t ≡ sizes_of old t)
    stays-named named =
        let before : has_tenant old.tenants t ≡ true = tenant-at old.tenants t r here ∙ ap not some in
        let after : has_tenant new.tenants t ≡ true
        = tenant-at new.tenants t (seat_of r table) row ∙ ap not (ap (λ n. length n == 0) (seat-name r table named) ∙ some) in
        let both : stays_at old.tenants new.tenants t ≡ true = ap (λ b. b && has_tenant new.tenants t) before ∙ after in
        (row, (changed.stays t both).0, (changed.stays t both).1)

    -- the place of a tenant whose name it does not have is vacant, and has no arrays
    pub gone-named : has_name r.name table ≡ false → (slice_get new.tenants t ≡ Some vacant) × (states_of new t ≡ no_arrays)
    gone-named absent =
        let none : slice_get new.tenants t ≡ Some vacant
        = ap (λ ts. slice_get ts t) rows ∙ left-vacant old.tenants table t r here some absent in
        (none, changed.gone t (fails (has_tenant old.tenants t) (has_tenant new.tenants t) (tenant-at new.tenants t vacant none)))

  -- a place that had no tenant has no arrays, whoever has it now
  pub new-has-none : (t : ℕ) → has_tenant old.tenants t ≡ false → states_of new t ≡ no_arrays
  new-has-none t none = changed.gone t (ap (λ b. b && has_tenant new.tenants t) none)

  -- nor has a place that has no tenant
  pub vacant-has-none : (t : ℕ) → has_tenant new.tenants t ≡ false → states_of new t ≡ no_arrays
  vacant-has-none t none = changed.gone t (fails (has_tenant old.tenants t) (has_tenant new.tenants t) none)

  -- what the quotas allow never falls
  pub granted-rises : (old.granted ≤ new.granted) × (words_for new.tenants ≤ new.granted)
  granted-rises = let most = changed.granted in (omega (arith, most), omega (arith, most))
