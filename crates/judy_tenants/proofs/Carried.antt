-- The service when later rows are put in force.
--     past-rows       no tenant stays at a place that the later rows do not have
--     within-more, within-all    the accounts so far
--     reason-seen     the reason for a refusal, by the arrays
--     put-stocked     the service is sound under the later rows
--     put-changed     what contracts see of it
--     free-seen       what they see of arrays that are freed while the rows stay
use Rattle.std.proofs.Common.{◌≡◌, ◌≢◌, ◌⊎◌, ◌≤◌, ◌<◌, ◌+◌, ◌&&◌, ℕ, Bool, true, false, not, inl, inr, List, length, map, ap, sym, ◌∙◌, refl, subst, arith, nat_lt, max, Option}
use Rattle.std.specs.Prelude.{IsTrue, IsFalse, get_or, option_map, unwrap_or}
use Rattle.std.proofs.lemmas.Bool.{ltb-true, ltb-false, false≢true}
use Rattle.std.proofs.lemmas.Bool.Decides.{eqb_tells}
use Rattle.std.proofs.lemmas.List.{length-map}
use Rattle.std.proofs.lemmas.Option.{slice_get_past}
use Rattle.judy_model.specs.Tenant.{no_arrays, used, pieces}
use Rattle.judy_table.specs.declared.tenant.Tenant.{Tenant}
use Rattle.judy_table.specs.Tenants.{is_vacant}
use Rattle.judy_tenants.specs.declared.accounts.Account.{Account}
use Rattle.judy_tenants.specs.declared.stock.Stock.{Stock}
use Rattle.judy_tenants.specs.Accounts.{entries_at, account_pieces}
use Rattle.judy_tenants.specs.Changes.{has_tenant, stays_at, StaysWithin, HasChanged, HasFreed, HasReasonIn, HasReason}
use Rattle.judy_tenants.specs.Frees.{AreFreed}
use Rattle.judy_tenants.specs.Held.{states_of, quotas_of, words_for}
use Rattle.judy_tenants.specs.States.{state_in}
use Rattle.judy_tenants.specs.Stocks.{held_of, IsStocked}
use Rattle.judy_tenants.proofs.Seen.{seen-state, seen-sizes}

-- no tenant has a place that the rows do not have
no-tenant : (rows : List Tenant) (t : ℕ) → length rows ≤ t → has_tenant rows t ≡ false
no-tenant rows t h =
    ap (λ (o : Option Bool). unwrap_or (option_map not o) false)
    (slice_get_past (map is_vacant rows) t (subst (λ n. n ≤ t) (sym (length-map rows is_vacant)) h))

and-false : (a b : Bool) → b ≡ false → (a && b) ≡ false
and-false true b e = e
and-false false b e = refl

-- so none stays there
pub past-rows : (rows later : List Tenant) (t : ℕ) → length later ≤ t → stays_at rows later t ≡ false
past-rows rows later t h = and-false (has_tenant rows t) (has_tenant later t) (no-tenant later t h)

module _ (rows later : List Tenant) (accounts : List Account) where
  -- one more place
  pub within-more : (i : ℕ) → ((t : ℕ) → t < i → StaysWithin rows later accounts t) → StaysWithin rows later accounts i
      → (t : ℕ) → t < i + 1 → StaysWithin rows later accounts t
  within-more i done h t below = by (eqb_tells t i)
    where
      less : t ≢ i → t < i
      less n = omega arith

      by : {A B : Type 0} → (A × (t ≡ i)) ⊎ (B × (t ≢ i)) → StaysWithin rows later accounts t
      by (inl e) = subst (λ u. StaysWithin rows later accounts u) (sym e.1) h
      by (inr n) = done t (less n.1)

  -- all places
  pub within-all : (n : ℕ) → length later ≤ n → ((t : ℕ) → t < n → StaysWithin rows later accounts t) → (t : ℕ) → StaysWithin rows later accounts t
  within-all n long done t stays = by (nat_lt t n) refl
    where
      by : (b : Bool) → nat_lt t n ≡ b → (entries_at accounts t ≤ (quotas_of later t).entries) × (account_pieces accounts t ≤ (quotas_of later t).pieces)
      by true e = done t (ltb-true t n e) stays
      by false e =
          let past = ltb-false t n e in
          absurd (false≢true (sym (past-rows rows later t (omega (arith, long, past))) ∙ stays))

-- the reason for a refusal
pub reason-seen : {H : List ℕ → ℕ} (rows later : List Tenant) (stock : Stock) → IsStocked H rows stock → (t : ℕ)
    → HasReasonIn rows later stock.accounts.items t → HasReason (held_of rows stock) later t
reason-seen rows later stock s t h = (h.0, by h.1)
  where
    by : ((quotas_of later t).entries < entries_at stock.accounts.items t) ⊎ ((quotas_of later t).pieces < account_pieces stock.accounts.items t)
        → ((quotas_of later t).entries < used (states_of (held_of rows stock) t)) ⊎ ((quotas_of later t).pieces < pieces (states_of (held_of rows stock) t))
    by (inl more) = inl (subst (λ n. (quotas_of later t).entries < n) (s.entries t ∙ ap used (sym (seen-state rows stock s t))) more)
    by (inr more) = inr (subst (λ n. (quotas_of later t).pieces < n) (s.pieces t ∙ ap pieces (sym (seen-state rows stock s t))) more)

-- the arrays of the tenants that do not stay were freed
module _ {H : List ℕ → ℕ} (rows later : List Tenant) (old new : Stock) (s : IsStocked H rows old) (m : IsStocked H rows new)
    (freed : AreFreed (λ t. IsTrue (stays_at rows later t)) old new)
    (gone : (t : ℕ) → IsFalse (stays_at rows later t) → state_in new.arena.blocks new.directory.0 t ≡ no_arrays)
    (few : length later ≤ 128) (within : (t : ℕ) → StaysWithin rows later old.accounts.items t) where
  -- an account that is 0, or that of a tenant that stays, is within the new quota
  account_within : (t : ℕ) → (entries_at new.accounts.items t ≤ (quotas_of later t).entries)
      × (account_pieces new.accounts.items t ≤ (quotas_of later t).pieces)
  account_within t = by (stays_at rows later t) refl
    where
      by : (b : Bool) → stays_at rows later t ≡ b → (entries_at new.accounts.items t ≤ (quotas_of later t).entries)
          × (account_pieces new.accounts.items t ≤ (quotas_of later t).pieces)
      by true e =
          let h = within t e in (
            subst (λ n. n ≤ (quotas_of later t).entries) (s.entries t ∙ ap used (sym (freed.states t e)) ∙ sym (m.entries t)) h.0,
            subst (λ n. n ≤ (quotas_of later t).pieces) (s.pieces t ∙ ap pieces (sym (freed.states t e)) ∙ sym (m.pieces t)) h.1,
          )
      by false e =
          let es : entries_at new.accounts.items t ≡ 0 = m.entries t ∙ ap used (gone t e) in
          let ps : account_pieces new.accounts.items t ≡ 0 = m.pieces t ∙ ap pieces (gone t e) in
          (omega (arith, es), omega (arith, ps))

  pub put-stocked : IsStocked H later new
  put-stocked = record {
    held = m.held;
    many = m.many;
    few = few;
    entries = m.entries;
    pieces = m.pieces;
    entries_within = λ t. (account_within t).0;
    pieces_within = λ t. (account_within t).1;
    owned = record { rooted = m.owned.rooted; outside = λ t h. gone t (past-rows rows later t h) };
  }

  -- the service, as contracts see it
  pub put-changed : (granted : ℕ) → granted ≡ max old.granted (words_for later)
      → HasChanged (held_of rows old) (held_of later (record new { granted = granted }))
  put-changed granted e =
      let last : Stock = record new { granted = granted } in
      record {
        stays = λ t h. (
          seen-state later last put-stocked t ∙ freed.states t h ∙ sym (seen-state rows old s t),
          seen-sizes later last put-stocked t ∙ freed.sizes t h ∙ sym (seen-sizes rows old s t),
        );
        gone = λ t h. seen-state later last put-stocked t ∙ gone t h;
        refusals = freed.refusals;
        unplaced = freed.unplaced;
        region = freed.region;
        reserved = freed.reserved;
        peak = freed.peak;
        start = ap (λ f. f.start) freed.footing;
        room = ap (λ f. f.room) freed.footing;
        granted = e;
      }

-- ---- arrays that are freed while the rows stay

-- the service, as contracts see it
pub free-seen : {H : List ℕ → ℕ} (rows : List Tenant) (old new : Stock) (gone : List Bool) → IsStocked H rows old → IsStocked H rows new
    → AreFreed (λ t. IsFalse (get_or gone t false)) old new
    → ((t : ℕ) → IsTrue (get_or gone t false) → state_in new.arena.blocks new.directory.0 t ≡ no_arrays)
    → HasFreed gone (held_of rows old) (held_of rows new)
free-seen rows old new gone s n freed none = record {
  tenants = refl;
  freed = λ t h. seen-state rows new n t ∙ none t h;
  stays = λ t h. (
    seen-state rows new n t ∙ freed.states t h ∙ sym (seen-state rows old s t),
    seen-sizes rows new n t ∙ freed.sizes t h ∙ sym (seen-sizes rows old s t),
  );
  refusals = freed.refusals;
  unplaced = freed.unplaced;
  region = freed.region;
  reserved = freed.reserved;
  peak = freed.peak;
  start = ap (λ f. f.start) freed.footing;
  room = ap (λ f. f.room) freed.footing;
  granted = freed.granted;
}
