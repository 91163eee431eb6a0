-- A table that is put in force, or an order that is carried out, while the service goes on.
--     forgotten place rows counts    the counts of places without those that have no tenant
--     without_gone rows tally        so are all counts by tenant
--     IsSeated old text new          the table of this text was put in force
--     IsOrdered old order new        the order was carried out
--     IsReload old text new          either of them, by the text
--     rows_with rows text            the rows in force after the table or the order of this text
--     rows_after rows texts          those after these texts, one after another
--     StaysAt t rows texts           each of these tables has the tenant of this place, with the same quota
--     HasRow t rows texts            each of them has the same row at this place
--     has_all rows table             the table has the name of each tenant of these rows
--     leavers rows text              the names of the tenants that are gone once the table of this text is in force
--     AreGathered left first request these leave, as far as they were gathered
use Rattle.std.specs.Prelude.{◌≡◌, ◌⊎◌, ◌||◌, ℕ, Bool, true, not, suc, filter, map, slice_get, List, [], ◌∷◌, IsTrue, Option, Some, None, Result, Ok, Err}
use Rattle.std.specs.List.{list_all}
use Rattle.judy_table.specs.declared.fault.TableFault.{TableFault}
use Rattle.judy_table.specs.declared.tenant.Tenant.{Tenant}
use Rattle.judy_model.specs.Tenant.{no_arrays}
use Rattle.judy_journal.specs.Leaving.{gone_request}
use Rattle.judy_table.specs.Freezes.{has_tenant_of, with_freeze}
use Rattle.judy_table.specs.Seats.{AreRows, has_name, seated}
use Rattle.judy_table.specs.Tenants.{is_vacant, read_table}
use Rattle.judy_tenants.specs.Changes.{HasChanged, stays_at}
use Rattle.judy_tenants.specs.Held.{Held, IsSoundService, quotas_of, states_of}
use Rattle.judy_server.specs.Orders.{Freeze, order_in}
use Rattle.judy_server.specs.Tally.{Tallied, cleared}
use Rattle.judy_server.specs.declared.tally.Tally.{Tally}

-- The first of the rows has this place. The count of a place without a tenant is 0, for the tenant that it is
-- given to next.
unfoldable pub forgotten : ℕ → List Tenant → List ℕ → List ℕ
forgotten place [] counts = counts
forgotten place (row ∷ rows) counts = forgotten (suc place) rows (cleared (is_vacant row) place counts)

-- what is counted by tenant is forgotten of places without one
abbrev pub without_gone : List Tenant → Tally → Tally
without_gone rows tally = record tally {
  refused = forgotten 0 rows tally.refused;
  spoken = forgotten 0 rows tally.spoken;
  full = forgotten 0 rows tally.full;
}

-- ---- the rows in force

abbrev pub rows_by : List Tenant → Result (List Tenant) TableFault → List Tenant
rows_by rows (Ok table) = seated rows table
rows_by rows (Err fault) = rows

abbrev pub rows_for : List Tenant → List ℕ → Option Freeze → List Tenant
rows_for rows text (Some order) = with_freeze order.name order.frozen rows
rows_for rows text None = rows_by rows (read_table text)

-- after the order that this text is is carried out, or its table is put in force; a text that has no table
-- changes nothing
unfoldable pub rows_with : List Tenant → List ℕ → List Tenant
rows_with rows text = rows_for rows text (order_in text)

-- after these texts, one after another
abbrev pub rows_after : List Tenant → List (List ℕ) → List Tenant
rows_after rows [] = rows
rows_after rows (text ∷ texts) = rows_after (rows_with rows text) texts

-- ---- a tenant that stays

-- Each of these tables, one after another, has the tenant of this place, with the same quota. Its tokens
-- may be others.
abbrev pub StaysAt : ℕ → List Tenant → List (List ℕ) → Type 0
StaysAt t rows [] = Unit {0}
StaysAt t rows (text ∷ texts) =
    IsTrue (stays_at rows (rows_with rows text) t) × (quotas_of (rows_with rows text) t ≡ quotas_of rows t) × StaysAt t (rows_with rows text) texts

-- each of these tables has the same row at this place
abbrev pub HasRow : ℕ → List Tenant → List (List ℕ) → Type 0
HasRow t rows [] = Unit {0}
HasRow t rows (text ∷ texts) = (slice_get (rows_with rows text) t ≡ slice_get rows t) × HasRow t (rows_with rows text) texts

-- ---- changes

-- The table of the text was put in force: a tenant that stays keeps its place, its arrays and its counts of
-- refused log-ins, lines and `FULL`, and a place whose tenant is gone has none. All other counts stay.
pub record IsSeated (old : Tallied) (text : List ℕ) (new : Tallied) : Type 0 where
  pub table : List Tenant
  pub reads : read_table text ≡ Ok table
  pub tenants : new.held.tenants ≡ seated old.held.tenants table
  pub rows : AreRows new.held.tenants
  pub held : HasChanged old.held new.held
  pub sound : IsSoundService new.held
  pub tally : new.tally ≡ without_gone new.held.tenants old.tally

-- The order was carried out: the tenant of its name is frozen, or is not. Arrays, quotas, names and places stay.
pub record IsOrdered (old : Tallied) (order : Freeze) (new : Tallied) : Type 0 where
  pub known : has_tenant_of order.name old.held.tenants ≡ true
  pub tenants : new.held.tenants ≡ with_freeze order.name order.frozen old.held.tenants
  pub only : new.held ≡ record old.held { tenants = new.held.tenants }
  pub rows : AreRows new.held.tenants
  pub sound : IsSoundService new.held
  pub tally : new.tally ≡ without_gone new.held.tenants old.tally

-- an order names a tenant in force, and any other text has a table
abbrev pub IsMeant : List Tenant → List ℕ → Option Freeze → Type 0
IsMeant rows text (Some order) = has_tenant_of order.name rows ≡ true
IsMeant rows text None = (table : List Tenant) × (read_table text ≡ Ok table)

-- an order changes nothing but the rows
abbrev pub KeepsRest : Option Freeze → Held → Held → Type 0
KeepsRest (Some order) old new = new ≡ record old { tenants = new.tenants }
KeepsRest None old new = Unit {0}

-- The text was put in force: the table that it has, or the order that it is. What is counted of places without a
-- tenant is forgotten.
pub record IsReload (old : Tallied) (text : List ℕ) (new : Tallied) : Type 0 where
  pub meant : IsMeant old.held.tenants text (order_in text)
  pub tenants : new.held.tenants ≡ rows_with old.held.tenants text
  pub only : KeepsRest (order_in text) old.held new.held
  -- each tenant keeps its arrays, or has none
  pub keeps : (t : ℕ) → (states_of new.held t ≡ states_of old.held t) ⊎ (states_of new.held t ≡ no_arrays)
  pub rows : AreRows new.held.tenants
  pub held : HasChanged old.held new.held
  pub sound : IsSoundService new.held
  pub tally : new.tally ≡ without_gone new.held.tenants old.tally

-- ---- a table that has all tenants in force

-- no tenant has this row, or the table has its name
abbrev pub is_kept : List Tenant → Tenant → Bool
is_kept table row = is_vacant row || has_name row.name table

-- the table has the name of each tenant of these rows
abbrev pub has_all : List Tenant → List Tenant → Bool
has_all rows table = list_all (is_kept table) rows

-- the names of the tenants of these rows that the table lacks
abbrev pub lacking : List Tenant → List Tenant → List (List ℕ)
lacking rows table = map (λ row. row.name) (filter (λ row. not (is_kept table row)) rows)

abbrev pub leavers_by : List Tenant → Result (List Tenant) TableFault → List (List ℕ)
leavers_by rows (Ok table) = lacking rows table
leavers_by rows (Err fault) = []

abbrev pub leavers_for : List Tenant → List ℕ → Option Freeze → List (List ℕ)
leavers_for rows text (Some order) = []
leavers_for rows text None = leavers_by rows (read_table text)

-- The names of the tenants that are gone once the table of this text is in force. None are for an order, and for a
-- text that is no table.
unfoldable pub leavers : List Tenant → List ℕ → List (List ℕ)
leavers rows text = leavers_for rows text (order_in text)

-- These leave, as far as they were gathered: nobody; or the first of them by its name, and all others in the request
-- of their record.
abbrev pub AreGathered : List (List ℕ) → Option (List ℕ) → List ℕ → Type 0
AreGathered left None request = left ≡ []
AreGathered left (Some first) request = (others : List (List ℕ)) × (left ≡ first ∷ others) × (request ≡ gone_request others)
