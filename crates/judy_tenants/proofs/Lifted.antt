-- A service whose tenants have the greatest quotas.
--     lifted-stocked    it is sound
--     lifted-granted    its words are bounded by the quotas
use Rattle.std.proofs.Common.{◌≡◌, ◌≤◌, ℕ, zero, suc, Bool, true, false, cond, List, [], ◌∷◌, max, sym, subst, arith}
use Rattle.std.proofs.lemmas.List.{length-map}
use Rattle.std.proofs.lemmas.List.Elements.{recursion_from_All}
use Rattle.std.specs.List.{AllByRecursion}
use Rattle.judy_table.specs.declared.tenant.Tenant.{Tenant}
use Rattle.judy_table.specs.Seats.{AreRows}
use Rattle.judy_table.specs.Tenants.{IsLimited, is_vacant}
use Rattle.judy_table.specs.Unlimited.{most_quota, unlimited, unlimited_row}
use Rattle.judy_tenants.specs.declared.stock.Stock.{Stock}
use Rattle.judy_tenants.specs.Held.{quotas_of, words_for}
use Rattle.judy_tenants.specs.Stocks.{IsGranted, IsStocked}

-- no quota is less
abbrev IsNoLess : List Tenant → ℕ → Type 0
IsNoLess rows t = ((quotas_of rows t).entries ≤ (quotas_of (unlimited rows) t).entries) × ((quotas_of rows t).pieces ≤ (quotas_of (unlimited rows) t).pieces)

row-grows : (r : Tenant) → IsLimited r → (r.quota.entries ≤ (unlimited_row r).quota.entries) × (r.quota.pieces ≤ (unlimited_row r).quota.pieces)
row-grows r h = by (is_vacant r)
  where
    by : (b : Bool) → (r.quota.entries ≤ (cond b r (record r { quota = most_quota })).quota.entries)
        × (r.quota.pieces ≤ (cond b r (record r { quota = most_quota })).quota.pieces)
    by true = (omega arith, omega arith)
    by false = (h.entries, h.pieces)

quotas-grow : (rows : List Tenant) → AllByRecursion IsLimited rows → (t : ℕ) → IsNoLess rows t
quotas-grow [] h t = (omega arith, omega arith)
quotas-grow (r ∷ rows) h zero = row-grows r h.0
quotas-grow (r ∷ rows) h (suc t) = quotas-grow rows h.1 t

less-again : (a b c : ℕ) → a ≤ b → b ≤ c → a ≤ c
less-again a b c h k = omega arith

-- it is sound
pub lifted-stocked : {H : List ℕ → ℕ} (rows : List Tenant) (stock : Stock) → AreRows rows → IsStocked H rows stock → IsStocked H (unlimited rows) stock
lifted-stocked rows stock r s =
    let grows = quotas-grow rows (recursion_from_All IsLimited rows r.limited) in
    let many = length-map rows unlimited_row in record {
      held = s.held;
      many = s.many;
      few = subst (λ n. n ≤ 128) (sym many) s.few;
      entries = s.entries;
      pieces = s.pieces;
      entries_within = λ t. less-again _ _ _ (s.entries_within t) (grows t).0;
      pieces_within = λ t. less-again _ _ _ (s.pieces_within t) (grows t).1;
      owned = record { rooted = s.owned.rooted; outside = λ t h. s.owned.outside t (subst (λ n. n ≤ t) many h) };
    }

-- its words are bounded by the quotas
pub lifted-granted : (rows : List Tenant) (stock : Stock) (granted : ℕ) → granted ≡ max stock.granted (words_for (unlimited rows))
    → IsGranted rows stock → IsGranted (unlimited rows) (record stock { granted = granted })
lifted-granted rows stock granted e g = record { peak = omega (arith, e, g.peak); table = omega (arith, e) }
