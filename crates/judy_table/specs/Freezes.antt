-- A frozen tenant: until it is thawed, of its tokens only that of the freeze changes its arrays.
--     is_tenant_of name t            the row has a tenant, of this name
--     has_tenant_of name rows        some row has
--     frozen_row name frozen t       the row after the tenant of this name gets this freeze, or none
--     with_freeze name frozen rows   all rows so
--     digest_in text                 the 32 bytes of 64 hexadecimal digits
use Rattle.std.specs.Prelude.{ℕ, Bool, not, ◌&&◌, List, Option, Some, None, Result, Ok, Err, if◌then◌else◌, map}
use Rattle.std.specs.List.{list_any}
use Rattle.std.specs.Str.{bytes_eq}
use Rattle.hex.specs.Hex.{decode_sized}
use Rattle.hex.specs.declared.error.FromHexError.{FromHexError}
use Rattle.judy_table.specs.declared.tenant.Tenant.{Tenant}
use Rattle.judy_table.specs.Tenants.{is_vacant}

-- the row has a tenant, of this name
abbrev pub is_tenant_of : List ℕ → Tenant → Bool
is_tenant_of name t = not (is_vacant t) && bytes_eq t.name name

-- some row has a tenant of this name
abbrev pub has_tenant_of : List ℕ → List Tenant → Bool
has_tenant_of name rows = list_any (is_tenant_of name) rows

-- the row after the tenant of this name gets this freeze, or none
abbrev pub frozen_row : List ℕ → Option (List ℕ) → Tenant → Tenant
frozen_row name frozen t = if is_tenant_of name t then record t { frozen = frozen } else t

-- all rows so: no other row changes, and no row but in its freeze
abbrev pub with_freeze : List ℕ → Option (List ℕ) → List Tenant → List Tenant
with_freeze name frozen rows = map (frozen_row name frozen) rows

-- what was read, if it was read
abbrev pub if_read : Result (List ℕ) FromHexError → Option (List ℕ)
if_read (Ok digest) = Some digest
if_read (Err e) = None

-- the 32 bytes of 64 hexadecimal digits of either case; other bytes have none
abbrev pub digest_in : List ℕ → Option (List ℕ)
digest_in text = if_read (decode_sized text 32)
