-- The state of each tenant, as contracts see it, is its state in the arena.
use Rattle.std.proofs.Common.{◌≡◌, ◌≤◌, ℕ, List, ap, sym, ◌∙◌, refl, subst, get_or, length, true, false, nat_lt, ◌*◌, arith}
use Rattle.std.proofs.lemmas.Bool.{ltb-true, ltb-false}
use Rattle.std.proofs.lemmas.List.{get_or_past}
use Rattle.std.proofs.lemmas.List.FromFn.{get_or-map-range_with_len, length-map-range_with_len}
use Rattle.std.specs.FinMap.{len}
use Rattle.judy_arena.specs.Blocks.{total_words}
use Rattle.judy_arena.specs.Totals.{TotalsOver}
use Rattle.judy_model.specs.declared.replies.Reply.{Reply}
use Rattle.judy_model.specs.Tenant.{no_arrays}
use Rattle.judy_model.specs.Service.{Quotas, IsServed, all_pieces}
use Rattle.judy_model.specs.Speakers.{Event}
use Rattle.judy_table.specs.declared.tenant.Tenant.{Tenant}
use Rattle.judy_tenants.specs.declared.stock.Stock.{Stock}
use Rattle.judy_kinds.specs.Laws.{PlacesAreSmall}
use Rattle.judy_tenants.specs.Growth.{KindLaws}
use Rattle.judy_tenants.proofs.Space.{IsCompact, space-in}
use Rattle.judy_tenants.specs.Held.{states_of, sizes_of, no_sizes, firsts, all_arrays, all_words, HasServiceSpace, HasNames}
use Rattle.judy_tenants.specs.States.{state_in, words_at, sizes_by, sizes_in}
use Rattle.judy_tenants.specs.Stocks.{held_of, IsStocked}
use Rattle.judy_tenants.proofs.Names.{names-in}
use Rattle.judy_tenants.proofs.Words.{words-sum}

-- the value for a tenant, read from the list of the values for the first n
all_are : {A : Type 0} (n : ℕ) (f : ℕ → A) (d : A) → ((t : ℕ) → n ≤ t → f t ≡ d) → (t : ℕ) → get_or (firsts n f) t d ≡ f t
all_are n f d outside t = elim (nat_lt t n) as (λ b. nat_lt t n ≡ b → get_or (firsts n f) t d ≡ f t) [
  | true ↦ λ h. get_or-map-range_with_len f 0 n t t d (ltb-true t n h) (omega arith)
  | false ↦ λ h. get_or_past (firsts n f) t d (subst (λ m. m ≤ t) (sym (length-map-range_with_len f 0 n)) (ltb-false t n h)) ∙ sym (outside t (ltb-false t n h))
] refl

-- the state that contracts see is the tenant's state
pub seen-state : {H : List ℕ → ℕ} (tenants : List Tenant) (stock : Stock) → IsStocked H tenants stock → (t : ℕ)
    → states_of (held_of tenants stock) t ≡ state_in stock.arena.blocks stock.directory.0 t
seen-state tenants stock s t = all_are (length tenants) (state_in stock.arena.blocks stock.directory.0) no_arrays s.owned.outside t

-- the same of the words of its arrays
pub seen-sizes : {H : List ℕ → ℕ} (tenants : List Tenant) (stock : Stock) → IsStocked H tenants stock → (t : ℕ)
    → sizes_of (held_of tenants stock) t ≡ sizes_in stock.arena.blocks stock.directory.0 t
seen-sizes tenants stock s t = all_are (length tenants) (sizes_in stock.arena.blocks stock.directory.0) no_sizes
    (λ u h. ap (sizes_by (λ kind name. words_at kind stock.arena.blocks stock.directory.0 u name)) (s.owned.outside u h)) t

-- the same of all tenants
pub seen-states : {H : List ℕ → ℕ} (tenants : List Tenant) (stock : Stock) → IsStocked H tenants stock
    → states_of (held_of tenants stock) ≡ state_in stock.arena.blocks stock.directory.0
seen-states tenants stock s = λ i t. seen-state tenants stock s t i

-- so a call that is served is served as contracts see it
pub seen-served : {H : List ℕ → ℕ} (tenants : List Tenant) (old new : Stock) → IsStocked H tenants old → IsStocked H tenants new
    → (quotas : Quotas) (event : Event) (reply : Reply)
    → IsServed quotas (state_in old.arena.blocks old.directory.0) event reply (state_in new.arena.blocks new.directory.0)
    → IsServed quotas (states_of (held_of tenants old)) event reply (states_of (held_of tenants new))
seen-served tenants old new s t quotas event reply h =
    subst (λ f. IsServed quotas f event reply (states_of (held_of tenants new))) (sym (seen-states tenants old s))
    (subst (λ g. IsServed quotas (state_in old.arena.blocks old.directory.0) event reply g) (sym (seen-states tenants new t)) h)

-- so are the words of all tenants' arrays
pub seen-all-sizes : {H : List ℕ → ℕ} (tenants : List Tenant) (stock : Stock) → IsStocked H tenants stock
    → sizes_of (held_of tenants stock) ≡ sizes_in stock.arena.blocks stock.directory.0
seen-all-sizes tenants stock s = λ i t. seen-sizes tenants stock s t i

-- the words of all blocks are those of the tenants that contracts see
pub seen-sum : {H : List ℕ → ℕ} → KindLaws H → PlacesAreSmall → TotalsOver → (tenants : List Tenant) (stock : Stock)
    → IsStocked H tenants stock → total_words stock.arena.blocks ≡ all_words (length tenants) (sizes_of (held_of tenants stock))
seen-sum {H} laws small totals tenants stock s =
    words-sum laws s.held s.owned (λ kind p. small H kind stock.arena.blocks p) totals
    ∙ ap (all_words (length tenants)) (sym (seen-all-sizes tenants stock s))

-- all blocks have few words for the pieces that contracts see
pub seen-space : {H : List ℕ → ℕ} → KindLaws H → PlacesAreSmall → TotalsOver → (tenants : List Tenant) (stock : Stock)
    → IsStocked H tenants stock → stock.arena.live ≡ total_words stock.arena.blocks → HasServiceSpace (held_of tenants stock)
seen-space {H} laws small totals tenants stock s live =
    let compact : IsCompact (length tenants) stock.arena.blocks stock.directory.0 = space-in laws s.held s.owned
    (λ kind p. small H kind stock.arena.blocks p) totals in
    record {
      most = subst (λ f. stock.arena.live ≤ 16 * all_pieces (length tenants) f) (sym (seen-states tenants stock s))
          (subst (λ n. n ≤ 16 * all_pieces (length tenants) (state_in stock.arena.blocks stock.directory.0)) (sym live) compact.most);
      least = subst (λ n. 4 * len stock.directory.0 ≤ n) (sym live) compact.least;
    }

-- the number of names is the number of arrays that have entries
pub seen-names : {H : List ℕ → ℕ} → KindLaws H → (tenants : List Tenant) (stock : Stock) → IsStocked H tenants stock → HasNames (held_of tenants stock)
seen-names laws tenants stock s = names-in laws s.held s.owned ∙ ap (all_arrays (length tenants)) (sym (seen-states tenants stock s))
