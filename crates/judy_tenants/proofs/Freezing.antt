-- A service of which a tenant is frozen or thawed.
--     frozen-stocked    it is sound
--     frozen-granted    its words are bounded by the quotas
--     frozen-held       what contracts see of it
use Rattle.std.proofs.Common.{◌≡◌, ◌≤◌, ◌+◌, ◌*◌, ℕ, List, [], ◌∷◌, Option, length, map, get_or, ap, ap₂, sym, refl, subst}
use Rattle.std.proofs.lemmas.List.{length-map}
use Rattle.judy_model.specs.declared.quotas.Quota.{Quota}
use Rattle.judy_table.specs.declared.tenant.Tenant.{Tenant}
use Rattle.judy_table.specs.Freezes.{frozen_row, with_freeze}
use Rattle.judy_table.proofs.lemmas.Freezes.{freeze-quota}
use Rattle.judy_tenants.specs.declared.stock.Stock.{Stock}
use Rattle.judy_tenants.specs.Accounts.{entries_at, account_pieces}
use Rattle.judy_tenants.specs.Held.{all_quotas, firsts, no_quota, words_for}
use Rattle.judy_tenants.specs.States.{state_in, sizes_in}
use Rattle.judy_tenants.specs.Stocks.{held_of, IsGranted, IsStocked}

module _ (name : List ℕ) (frozen : Option (List ℕ)) where
  -- each quota is the same
  same-quotas : (rows : List Tenant) → map (λ (t : Tenant). t.quota) (with_freeze name frozen rows) ≡ map (λ (t : Tenant). t.quota) rows
  same-quotas [] = refl
  same-quotas (t ∷ ts) = ap₂ (λ (q : Quota) qs. q ∷ qs) (freeze-quota name frozen t) (same-quotas ts)

  many : (rows : List Tenant) → length (with_freeze name frozen rows) ≡ length rows
  many rows = length-map rows (frozen_row name frozen)

  -- so the quotas allow as many words
  same-words : (rows : List Tenant) → words_for (with_freeze name frozen rows) ≡ words_for rows
  same-words rows =
      ap₂ (λ (n : ℕ) (qs : List Quota). 16 * all_quotas n (λ t. get_or qs t no_quota) + 194560) (many rows) (same-quotas rows)

  -- it is sound
  pub frozen-stocked : {H : List ℕ → ℕ} (rows : List Tenant) (stock : Stock) → IsStocked H rows stock → IsStocked H (with_freeze name frozen rows) stock
  frozen-stocked rows stock s = record {
    held = s.held;
    many = s.many;
    few = subst (λ n. n ≤ 128) (sym (many rows)) s.few;
    entries = s.entries;
    pieces = s.pieces;
    entries_within = λ t. subst (λ (qs : List Quota). entries_at stock.accounts.items t ≤ (get_or qs t no_quota).entries) (sym (same-quotas rows)) (s.entries_within t);
    pieces_within = λ t. subst (λ (qs : List Quota). account_pieces stock.accounts.items t ≤ (get_or qs t no_quota).pieces) (sym (same-quotas rows)) (s.pieces_within t);
    owned = record { rooted = s.owned.rooted; outside = λ t h. s.owned.outside t (subst (λ n. n ≤ t) (many rows) h) };
  }

  -- its words are bounded by the quotas
  pub frozen-granted : (rows : List Tenant) (stock : Stock) → IsGranted rows stock → IsGranted (with_freeze name frozen rows) stock
  frozen-granted rows stock g = record { peak = g.peak; table = subst (λ n. n ≤ stock.granted) (sym (same-words rows)) g.table }

  -- what contracts see of it
  pub frozen-held : (rows : List Tenant) (stock : Stock)
      → held_of (with_freeze name frozen rows) stock ≡ record (held_of rows stock) { tenants = with_freeze name frozen rows }
  frozen-held rows stock =
      ap (λ n. record (held_of rows stock) {
        tenants = with_freeze name frozen rows;
        arrays = firsts n (state_in stock.arena.blocks stock.directory.0);
        sizes = firsts n (sizes_in stock.arena.blocks stock.directory.0);
      }) (many rows)
