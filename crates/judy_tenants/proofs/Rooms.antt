-- A tenant's account and quota, and whether there is room.
use Rattle.std.proofs.Common.{◌≡◌, ◌≤◌, ◌<◌, ◌+◌, ◌&&◌, ℕ, Bool, true, false, not, inl, inr, List, map, nat_lt, nat_le, ap, sym, ◌∙◌, refl, arith, Some}
use Rattle.std.specs.List.{slice_get}
use Rattle.std.proofs.lemmas.Bool.{and_parts, ltb-true, leb-true}
use Rattle.judy_model.specs.declared.calls.Call.{Call}
use Rattle.judy_model.specs.declared.quotas.Quota.{Quota}
use Rattle.judy_model.specs.Tenant.{State, used, pieces, new_pieces, has_room}
use Rattle.judy_model.specs.WellFormed.{Grows}
use Rattle.judy_table.specs.declared.tenant.Tenant.{Tenant}
use Rattle.judy_tenants.specs.declared.accounts.Account.{Account}
use Rattle.judy_tenants.specs.declared.stock.Stock.{Stock}
use Rattle.judy_tenants.specs.Held.{quotas_of}
use Rattle.judy_tenants.proofs.Steps.{HasWay}
use Rattle.judy_tenants.specs.States.{state_in}
use Rattle.judy_tenants.specs.Accounts.{entries_at, account_pieces, has_room_in}
use Rattle.judy_tenants.specs.Stocks.{IsStocked}
use Rattle.judy_tenants.proofs.Counts.{quota-read}

module _ {H : List ℕ → ℕ} (tenants : List Tenant) (stock : Stock) (s : IsStocked H tenants stock) (t : ℕ) (quota : Quota) (account : Account)
    (is : slice_get (map (λ tenant. tenant.quota) tenants) t ≡ Some quota)
    (es : account.entries ≡ entries_at stock.accounts.items t) (ps : account.pieces ≡ account_pieces stock.accounts.items t) where
  -- the account has the tenant's numbers
  pub entries-are : account.entries ≡ used (state_in stock.arena.blocks stock.directory.0 t)
  entries-are = es ∙ s.entries t

  pub pieces-are : account.pieces ≡ pieces (state_in stock.arena.blocks stock.directory.0 t)
  pieces-are = ps ∙ s.pieces t

  -- the account has room exactly if the tenant has
  pub room-is : (c : Call) → has_room_in account quota c ≡ has_room (quotas_of tenants t) (state_in stock.arena.blocks stock.directory.0 t) c
  room-is c =
      ap (λ n. nat_lt n quota.entries && nat_le (account.pieces + new_pieces c) quota.pieces) entries-are
      ∙ ap (λ n. nat_lt (used (state_in stock.arena.blocks stock.directory.0 t)) quota.entries && nat_le (n + new_pieces c) quota.pieces) pieces-are
      ∙ ap (λ (q : Quota). has_room q (state_in stock.arena.blocks stock.directory.0 t) c) (sym (quota-read tenants t quota is))

  -- the account is within the quota
  pub pieces-fit : account.pieces ≤ quota.pieces
  pieces-fit =
      let a : account_pieces stock.accounts.items t ≤ (quotas_of tenants t).pieces = s.pieces_within t in
      let q : (quotas_of tenants t).pieces ≡ quota.pieces = ap (λ (q : Quota). q.pieces) (quota-read tenants t quota is) in
      omega (arith, ps, a, q)

-- a call that is not refused for the quota asks for nothing new, or has room
pub way-of : (asks room : Bool) → (asks && not room) ≡ false → HasWay asks room
way-of true true e = inr refl
way-of true false e = cc
way-of false room e = inl refl

-- a call that is refused for the quota asks for a new entry and has no room
pub full-of : (asks room : Bool) → (asks && not room) ≡ true → (asks ≡ true) × (room ≡ false)
full-of true true e = cc
full-of true false e = (refl, refl)
full-of false room e = cc

-- a call that asks for a new entry and is not refused has room
pub room-of : (asks room : Bool) → HasWay asks room → asks ≡ true → room ≡ true
room-of true room (inl e) h = cc
room-of true room (inr e) h = e
room-of false room w h = cc

-- a number that grows by n only if there is room stays within the quota
bounded : (asks room : Bool) (n most before after : ℕ) → Grows asks true n before after → HasWay asks room
    → (room ≡ true → before + n ≤ most) → before ≤ most → after ≤ most
bounded true true n most before after h w fits k = let f = fits refl in omega (arith, h, f)
bounded true false n most before after h w fits k = absurd (none (room-of true false w refl))
  where
    none : false ≡ true → ⊥
    none e = cc
bounded false room n most before after h w fits k = omega (arith, h, k)

-- so the entries and the pieces of a tenant stay within its quota
pub entries-bounded : (asks : Bool) (quota : Quota) (s : State) (c : Call) (after : ℕ) → Grows asks true 1 (used s) after → HasWay asks (has_room quota s c)
    → used s ≤ quota.entries → after ≤ quota.entries
entries-bounded asks quota s c after h w k = bounded asks (has_room quota s c) 1 quota.entries (used s) after h w
    (λ r. let few : used s < quota.entries = ltb-true (used s) quota.entries (and_parts (nat_lt (used s) quota.entries) _ r).0 in omega (arith, few)) k

pub pieces-bounded : (asks : Bool) (quota : Quota) (s : State) (c : Call) (after : ℕ) → Grows asks true (new_pieces c) (pieces s)
    after → HasWay asks (has_room quota s c)
    → pieces s ≤ quota.pieces → after ≤ quota.pieces
pieces-bounded asks quota s c after h w k = bounded asks (has_room quota s c) (new_pieces c) quota.pieces (pieces s) after h w
    (λ r. leb-true (pieces s + new_pieces c) quota.pieces (and_parts (nat_lt (used s) quota.entries) _ r).1) k
