-- The numbers of entries and pieces of each tenant, as the service counts them.
--     entries_at, account_pieces   the counts of a tenant; 0 for a tenant that is not in the table
--     has_room_in                  whether a quota has room for the entry that a call would insert
--     IsOwned n b d                only tenants below n have arrays
--     IsServer                     the invariant of a service
use Rattle.std.specs.Prelude.{◌≡◌, ◌≤◌, ◌+◌, ◌&&◌, Bool, nat_lt, nat_le, ℕ, List, [], None, map, get_or, length}
use Rattle.std.specs.FinMap.{get}
use Rattle.judy_arena.specs.Blocks.{Blocks}
use Rattle.judy_model.specs.declared.calls.Call.{Call}
use Rattle.judy_model.specs.declared.quotas.Quota.{Quota}
use Rattle.judy_model.specs.Tenant.{no_arrays, used, pieces, new_pieces}
use Rattle.judy_directory.specs.Shelf.{Places}
use Rattle.judy_table.specs.declared.tenant.Tenant.{Tenant}
use Rattle.judy_tenants.specs.declared.accounts.Account.{Account}
use Rattle.judy_tenants.specs.Held.{quotas_of}
use Rattle.judy_tenants.specs.States.{state_in, IsHeld}

-- the number of entries of a tenant
abbrev pub entries_at : List Account → ℕ → ℕ
entries_at accounts t = get_or (map (λ a. a.entries) accounts) t 0

-- the number of pieces of a tenant
abbrev pub account_pieces : List Account → ℕ → ℕ
account_pieces accounts t = get_or (map (λ a. a.pieces) accounts) t 0

-- whether the quota has room for the entries of the account and one more with the pieces of this
-- call
abbrev pub has_room_in : Account → Quota → Call → Bool
has_room_in account quota call = nat_lt account.entries quota.entries && nat_le (account.pieces + new_pieces call) quota.pieces

-- only tenants below n have arrays, and there is no array at the empty key
pub record IsOwned (n : ℕ) (b : Blocks) (d : Places) : Type 0 where
  pub rooted : get d [] ≡ None
  pub outside : (t : ℕ) → n ≤ t → state_in b d t ≡ no_arrays

-- the invariant of a service; H is the hash of the JudyHS arrays
pub record IsServer (H : List ℕ → ℕ) (b : Blocks) (places : Places) (accounts : List Account) (tenants : List Tenant) : Type 0 where
  -- each place leads to an array with its own blocks, and every live block belongs to an array
  pub held : IsHeld H b places
  -- there is an account for each row that a table can have, and the table has no more rows
  pub many : length accounts ≡ 128
  pub few : length tenants ≤ 128
  -- the account has the tenant's numbers of entries and pieces
  pub entries : (t : ℕ) → entries_at accounts t ≡ used (state_in b places t)
  pub pieces : (t : ℕ) → account_pieces accounts t ≡ pieces (state_in b places t)
  -- the account does not exceed the quota
  pub entries_within : (t : ℕ) → entries_at accounts t ≤ (quotas_of tenants t).entries
  pub pieces_within : (t : ℕ) → account_pieces accounts t ≤ (quotas_of tenants t).pieces
  -- only tenants of the table have arrays
  pub owned : IsOwned (length tenants) b places
