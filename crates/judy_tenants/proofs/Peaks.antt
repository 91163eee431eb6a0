-- The words that are ever live at once, by the tenants' quotas.
--     peak-within      no call raises the peak above this bound, or above that of an earlier table
--     still-granted    so the bound is kept
use Rattle.std.proofs.Common.{◌≡◌, ℕ, zero, suc, ◌*◌, ◌≤◌, Bool, true, false, cond, List, length, subst, arith}
use Rattle.judy_arena.specs.Blocks.{Blocks, ArenaState, total_words}
use Rattle.judy_arena.specs.Takes.{Takes}
use Rattle.judy_arena.specs.Totals.{TotalsOver}
use Rattle.judy_model.specs.declared.calls.Call.{Call}
use Rattle.judy_model.specs.Tenant.{pieces}
use Rattle.judy_model.specs.Service.{Quotas, States, all_pieces}
use Rattle.judy_model.specs.declared.commands.Kind.{Kind}
use Rattle.judy_model.specs.declared.commands.Kind.TheVariants.{One, Long, Str, Bytes}
use Rattle.judy_table.specs.declared.tenant.Tenant.{Tenant}
use Rattle.judy_kinds.specs.Calls.{kind_of_call, asks_at, blocks_of_kind, blocks_of_call}
use Rattle.judy_kinds.specs.Laws.{PlacesAreSmall}
use Rattle.judy_tenants.specs.declared.stock.Stock.{Stock}
use Rattle.judy_tenants.specs.Held.{quotas_of, all_quotas}
use Rattle.judy_tenants.specs.Growth.{KindLaws}
use Rattle.judy_tenants.specs.States.{state_in}
use Rattle.judy_tenants.specs.Stocks.{IsGranted, IsStocked}
use Rattle.judy_tenants.proofs.Space.{IsCompact, space-in}

-- if each tenant is within its quota, all of them are
all-within : (n : ℕ) (states : States) (quotas : Quotas) → ((t : ℕ) → pieces (states t) ≤ (quotas t).pieces) → all_pieces n states ≤ all_quotas n quotas
all-within zero states quotas h = omega arith
all-within (suc n) states quotas h = let rest = all-within n states quotas h in let here = h n in omega (arith, rest, here)

few-of-kind : (kind : Kind) → blocks_of_kind kind ≤ 380
few-of-kind One = omega arith
few-of-kind Long = omega arith
few-of-kind Str = omega arith
few-of-kind Bytes = omega arith

-- a call takes at most 380 blocks
few-blocks : (b : Blocks) (w : ℕ) (c : Call) → blocks_of_call b w c ≤ 380
few-blocks b w c = by (asks_at b w c) (blocks_of_kind (kind_of_call c)) (few-of-kind (kind_of_call c))
  where
    by : (asks : Bool) (n : ℕ) → n ≤ 380 → cond {A = ℕ} asks n 0 ≤ 380
    by true n h = h
    by false n h = omega arith

module _ {H : List ℕ → ℕ} (laws : KindLaws H) (small : PlacesAreSmall) (totals : TotalsOver) (tenants : List Tenant) (old : Stock)
    (s : IsStocked H tenants old) where
  -- the blocks of all arrays have at most 16 words for each piece of the quotas
  live-within : total_words old.arena.blocks ≤ 16 * all_quotas (length tenants) (quotas_of tenants)
  live-within =
      let compact : IsCompact (length tenants) old.arena.blocks old.directory.0 = space-in laws s.held s.owned
      (λ kind p. small H kind old.arena.blocks p) totals in
      let within = all-within (length tenants) (state_in old.arena.blocks old.directory.0) (quotas_of tenants)
      (λ t. subst (λ n. n ≤ (quotas_of tenants t).pieces) (s.pieces t) (s.pieces_within t)) in
      let most = compact.most in omega (arith, most, within)

  pub peak-within : old.arena.live ≡ total_words old.arena.blocks → IsGranted tenants old → (w : ℕ) (c : Call) (new : ArenaState)
      → Takes (blocks_of_call old.arena.blocks w c) old.arena new → new.peak ≤ old.granted
  peak-within live granted w c new t =
      let few = few-blocks old.arena.blocks w c in let within = live-within in let peak = t.peak in
      let below = granted.peak in let table = granted.table in omega (arith, live, below, table, few, within, peak)

-- so the bound is kept by a call
pub still-granted : (tenants : List Tenant) (old new : Stock) → IsGranted tenants old → new.granted ≡ old.granted → new.arena.peak ≤ old.granted
    → IsGranted tenants new
still-granted tenants old new s same peak = let table = s.table in record { peak = omega (arith, same, peak); table = omega (arith, same, table) }
