-- How a service changes when later rows of a table are put in force.
--     has_tenant rows t            a tenant has this place
--     stays_at rows later t        it has the place before and after, so it stays
--     HasChanged old new           the later rows were put in force
--     HasFreed gone old new        the arrays of the tenants at the marked places were freed
--     StaysWithin rows later ..    if the tenant of a place stays, its account is within its new quota
--     HasReasonIn, HasReason       why the rows were not put in force, by the accounts and by the arrays
--     lifted held                  each tenant has the greatest quota
--     regranted held               what the quotas of earlier tables allowed counts no more
use Rattle.std.specs.Prelude.{◌≡◌, ◌⊎◌, ◌<◌, ◌≤◌, ℕ, Bool, false, ◌&&◌, not, List, IsTrue, IsFalse, get_or, map, max, option_map, unwrap_or, slice_get}
use Rattle.judy_model.specs.Tenant.{no_arrays, used, pieces}
use Rattle.judy_table.specs.declared.tenant.Tenant.{Tenant}
use Rattle.judy_table.specs.Tenants.{is_vacant}
use Rattle.judy_table.specs.Unlimited.{unlimited}
use Rattle.judy_tenants.specs.declared.accounts.Account.{Account}
use Rattle.judy_tenants.specs.Accounts.{entries_at, account_pieces}
use Rattle.judy_tenants.specs.Held.{Held, states_of, sizes_of, quotas_of, words_for}

-- whether a tenant has this place
abbrev pub has_tenant : List Tenant → ℕ → Bool
has_tenant rows t = unwrap_or (option_map not (slice_get (map is_vacant rows) t)) false

-- whether the tenant of a place stays when later rows come in force: a place that is given to another
-- tenant was vacant before
abbrev pub stays_at : List Tenant → List Tenant → ℕ → Bool
stays_at rows later t = has_tenant rows t && has_tenant later t

-- Later rows were put in force. A tenant that stays keeps its arrays, and every other place has none:
-- the arrays of those that are gone were freed. What was counted stays, and so does the memory that
-- was taken.
pub record HasChanged (old new : Held) : Type 0 where
  pub stays : (t : ℕ) → IsTrue (stays_at old.tenants new.tenants t) → (states_of new t ≡ states_of old t) × (sizes_of new t ≡ sizes_of old t)
  pub gone : (t : ℕ) → IsFalse (stays_at old.tenants new.tenants t) → states_of new t ≡ no_arrays
  pub refusals : new.refusals ≡ old.refusals
  pub unplaced : new.unplaced ≡ old.unplaced
  pub region : new.region ≡ old.region
  pub reserved : new.reserved ≡ old.reserved
  pub peak : new.peak ≡ old.peak
  pub start : new.start ≡ old.start
  pub room : new.room ≡ old.room
  pub granted : new.granted ≡ max old.granted (words_for new.tenants)

-- The arrays of the tenants at the marked places were freed. The rows stay, and so do all other arrays, what was
-- counted, and the memory that was taken.
pub record HasFreed (gone : List Bool) (old new : Held) : Type 0 where
  pub tenants : new.tenants ≡ old.tenants
  pub freed : (t : ℕ) → IsTrue (get_or gone t false) → states_of new t ≡ no_arrays
  pub stays : (t : ℕ) → IsFalse (get_or gone t false) → (states_of new t ≡ states_of old t) × (sizes_of new t ≡ sizes_of old t)
  pub refusals : new.refusals ≡ old.refusals
  pub unplaced : new.unplaced ≡ old.unplaced
  pub region : new.region ≡ old.region
  pub reserved : new.reserved ≡ old.reserved
  pub peak : new.peak ≡ old.peak
  pub start : new.start ≡ old.start
  pub room : new.room ≡ old.room
  pub granted : new.granted ≡ old.granted

-- the account of a tenant that stays is within its new quota
abbrev pub StaysWithin : List Tenant → List Tenant → List Account → ℕ → Type 0
StaysWithin rows later accounts t =
    IsTrue (stays_at rows later t) → (entries_at accounts t ≤ (quotas_of later t).entries) × (account_pieces accounts t ≤ (quotas_of later t).pieces)

-- the account of a tenant that stays exceeds its new quota
abbrev pub HasReasonIn : List Tenant → List Tenant → List Account → ℕ → Type 0
HasReasonIn rows later accounts t =
    IsTrue (stays_at rows later t) × (((quotas_of later t).entries < entries_at accounts t) ⊎ ((quotas_of later t).pieces < account_pieces accounts t))

-- a tenant that stays holds more than its new quota
abbrev pub HasReason : Held → List Tenant → ℕ → Type 0
HasReason old later t =
    IsTrue (stays_at old.tenants later t)
    × (((quotas_of later t).entries < used (states_of old t)) ⊎ ((quotas_of later t).pieces < pieces (states_of old t)))

-- each tenant has the greatest quota, and nothing else changed
abbrev pub lifted : Held → Held
lifted held = record held { tenants = unlimited held.tenants; granted = max held.granted (words_for (unlimited held.tenants)) }

-- What the quotas of earlier tables allowed counts no more, but for the words that were live at once.
-- Nothing else changed.
abbrev pub regranted : Held → Held
regranted held = record held { granted = max held.peak (words_for held.tenants) }
