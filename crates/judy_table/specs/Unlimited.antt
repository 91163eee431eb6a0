-- Rows without quotas.
--     most_quota           the greatest quota that a table can grant
--     unlimited_row row    the same tenant, with the greatest quota; a vacant row stays as it is
--     unlimited rows       all rows so
use Rattle.std.specs.Prelude.{List, if◌then◌else◌, map}
use Rattle.judy_model.specs.declared.quotas.Quota.{Quota}
use Rattle.judy_model.specs.declared.quotas.TheConstants.{ENTRIES_LIMIT, PIECES_LIMIT}
use Rattle.judy_table.specs.declared.tenant.Tenant.{Tenant}
use Rattle.judy_table.specs.Tenants.{is_vacant}

-- the greatest quota that a table can grant
abbrev pub most_quota : Quota
most_quota = record { entries = ENTRIES_LIMIT; pieces = PIECES_LIMIT }

-- the same tenant, with the greatest quota; a vacant row stays as it is
abbrev pub unlimited_row : Tenant → Tenant
unlimited_row t = if is_vacant t then t else record t { quota = most_quota }

-- all rows so
abbrev pub unlimited : List Tenant → List Tenant
unlimited rows = map unlimited_row rows
