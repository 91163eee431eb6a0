-- The rows in force after another table is read. A tenant that stays keeps its place. The place of
-- one that is gone is vacant, and the next table may give it away. A tenant that is frozen stays so.
--     has_name name ts     some row has this name
--     row_of name ts       the first row of this name, or a vacant one
--     keeping frozen t     the row of the same tenant with this freeze, or none
--     seat_of row ts       the first row of its name, with its freeze, or a vacant one
--     fresh_in rows ts     the tenants of a table whose names no row has
--     seated rows ts       the rows after the table is read
--     row_after name rows ts   the row of a name after the table is read
--     named ts             how many rows have a tenant
--     name_at ts place     the name of the tenant at a place, or none
--     journal_at ts place  the limit of the records of the tenant at a place, or none
--     AreRows ts           what holds of the rows of every table
--     IsFree row           a place has no row, or a vacant one
--     right_in name token ts   the right of a log-in
--     knows ts who         the speaker's place has a tenant with a token for the speaker's right
--     goes_on ts who shown the token with this SHA-256, by which the speaker logged in, gives its right
use Rattle.std.specs.Prelude.{◌≡◌, ℕ, ◌≤◌, ◌&&◌, ◌||◌, Bool, true, false, not, List, [], ◌∷◌, length, Option, Some, None, is_some}
use Rattle.std.specs.Prelude.{if◌then◌else◌, filter, count_by, get_or, drop, map, slice_get, option_and_then, option_map, unwrap_or}
use Rattle.std.specs.List.{All, list_any}
use Rattle.std.specs.Str.{bytes_eq}
use Rattle.judy_model.specs.Grammar.{is_name}
use Rattle.judy_model.specs.Speakers.{Speaker}
use Rattle.judy_model.specs.declared.quotas.Right.{Right}
use Rattle.judy_model.specs.declared.quotas.Right.TheVariants.{Change, Look, Frozen}
use Rattle.judy_table.specs.declared.table.TheConstants.{TENANTS_LIMIT, ROWS_LIMIT}
use Rattle.judy_table.specs.declared.tenant.Tenant.{Tenant}
use Rattle.judy_table.specs.Tenants.{is_vacant, vacant, may_change, is_kept_out, may_look, login_of, AreLimited}

-- some row has this name
abbrev pub has_name : List ℕ → List Tenant → Bool
has_name name ts = list_any (λ t. bytes_eq t.name name) ts

-- the first row of this name, or a vacant one
abbrev pub row_of : List ℕ → List Tenant → Tenant
row_of name [] = vacant
row_of name (t ∷ ts) = if bytes_eq t.name name then t else row_of name ts

-- the row of the same tenant with this freeze, or none; a vacant row stays as it is
abbrev pub keeping : Option (List ℕ) → Tenant → Tenant
keeping frozen t = if is_vacant t then t else record t { frozen = frozen }

-- the first row with the name of this one, which is frozen as this one is, or a vacant one
abbrev pub seat_of : Tenant → List Tenant → Tenant
seat_of r ts = keeping r.frozen (row_of r.name ts)

-- a row with a tenant whose name none of the others has
abbrev pub is_fresh : List Tenant → Tenant → Bool
is_fresh rows t = not (is_vacant t) && not (has_name t.name rows)

-- the tenants of a table whose names no row has
abbrev pub fresh_in : List Tenant → List Tenant → List Tenant
fresh_in rows table = filter (is_fresh rows) table

-- The rows, one after another: a vacant one takes the next fresh tenant, if there is one; another
-- one becomes the table's row of its name with its freeze, or vacant. The other fresh tenants come after
-- all rows.
abbrev pub placed : List Tenant → List Tenant → List Tenant → List Tenant
placed table [] fresh = fresh
placed table (r ∷ rows) fresh =
    if is_vacant r then get_or fresh 0 vacant ∷ placed table rows (drop 1 fresh) else seat_of r table ∷ placed table rows fresh

-- the rows after the table is read
abbrev pub seated : List Tenant → List Tenant → List Tenant
seated rows table = placed table rows (fresh_in rows table)

-- the row of a name after the table is read: the table's, with the freeze of the row that had the name
abbrev pub row_after : List ℕ → List Tenant → List Tenant → Tenant
row_after name rows table =
    if has_name name rows then keeping (row_of name rows).frozen (row_of name table) else row_of name table

-- how many rows have a tenant
abbrev pub named : List Tenant → ℕ
named ts = count_by (λ t. not (is_vacant t)) ts

-- the name of the tenant at a place; empty if no tenant has the place
abbrev pub name_at : List Tenant → ℕ → List ℕ
name_at ts place = unwrap_or (slice_get (map (λ (t : Tenant). t.name) ts) place) []

-- after how many bytes of records since the last snapshot a journal takes no more of the tenant at a place, if it
-- has such a limit
abbrev pub journal_at : List Tenant → ℕ → Option ℕ
journal_at ts place = option_and_then (λ (t : Tenant). t.journal) (slice_get ts place)

-- the name of a tenant is one of the grammar: it is short, and has neither spaces nor line feeds
abbrev pub IsSpelled : Tenant → Type 0
IsSpelled t = is_vacant t ≡ false → is_name t.name ≡ true

-- no two tenants have one name
abbrev pub are_distinct : List Tenant → Bool
are_distinct [] = true
are_distinct (t ∷ ts) = (is_vacant t || not (has_name t.name ts)) && are_distinct ts

-- a place that has no row, or a vacant one
abbrev pub IsFree : Option Tenant → Type 0
IsFree None = Unit {0}
IsFree (Some r) = is_vacant r ≡ true

-- what holds of the rows of every table
pub record AreRows (ts : List Tenant) : Type 0 where
  pub few : length ts ≤ ROWS_LIMIT
  pub few_named : named ts ≤ TENANTS_LIMIT
  -- the quota of each tenant is one that a table can grant
  pub limited : AreLimited ts
  pub spelled : All IsSpelled ts
  -- all vacant rows are alike, so each has a quota of 0
  pub empty : All (λ t. is_vacant t ≡ true → t ≡ vacant) ts
  pub distinct : are_distinct ts ≡ true

-- the right that a name and a token have
abbrev pub right_in : List ℕ → List ℕ → List Tenant → Option Right
right_in name token ts = option_map (λ (s : Speaker). s.right) (login_of name token ts)

-- whether a tenant has a token for this right
abbrev pub has_token : Right → Tenant → Bool
has_token Change t = true
has_token Frozen t = is_some t.frozen
has_token Look t = is_some t.others.look || is_some t.others.former_look

-- whether there is a tenant at a place, with a token for this right
abbrev pub knows_row : Option Tenant → Right → Bool
knows_row None right = false
knows_row (Some t) right = not (is_vacant t) && has_token right t

-- the speaker's place has a tenant with a token for the speaker's right
abbrev pub knows : List Tenant → Speaker → Bool
knows ts who = knows_row (slice_get ts who.tenant) who.right

-- whether a token with this SHA-256 gives a tenant's speaker this right
abbrev pub gives : Right → List ℕ → Tenant → Bool
gives Change shown t = may_change shown t
gives Frozen shown t = is_kept_out shown t
gives Look shown t = may_look shown t

-- whether there is a tenant at a place, and the token gives this right there
abbrev pub gives_row : Option Tenant → Right → List ℕ → Bool
gives_row None right shown = false
gives_row (Some t) right shown = not (is_vacant t) && gives right shown t

-- the token with this SHA-256, by which the speaker logged in, gives the speaker's right
abbrev pub goes_on : List Tenant → Speaker → List ℕ → Bool
goes_on ts who shown = gives_row (slice_get ts who.tenant) who.right shown
