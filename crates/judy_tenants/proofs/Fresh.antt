-- A service whose tenants have no arrays.
use Rattle.std.proofs.Common.{◌≡◌, ◌≤◌, ℕ, List, length, ap, sym, ◌∙◌, subst, arith}
use Rattle.std.specs.FinMap.{len, len-empty}
use Rattle.judy_arena.specs.Blocks.{Blocks, no_blocks}
use Rattle.judy_model.specs.Contents.{string_order}
use Rattle.judy_model.specs.Tenant.{used, pieces, no_arrays}
use Rattle.judy_directory.specs.Places.{Stand}
use Rattle.judy_directory.specs.Shelf.{Places}
use Rattle.judy_table.specs.declared.tenant.Tenant.{Tenant}
use Rattle.judy_tenants.specs.declared.accounts.Account.{Account}
use Rattle.judy_tenants.specs.States.{state_in}
use Rattle.judy_tenants.specs.Growth.{KindLaws}
use Rattle.judy_tenants.proofs.StateLaws.{no_places, nothing-in, nothing-held}
use Rattle.judy_tenants.proofs.Space.{owned-none}
use Rattle.judy_tenants.specs.Accounts.{entries_at, account_pieces, IsServer}

module _ {H : List ℕ → ℕ} (laws : KindLaws H) (accounts : List Account) (tenants : List Tenant) (b : Blocks) (d : Places)
    (blocks : b ≡ no_blocks) (places : d ≡ no_places) where
  -- no tenant has an array
  pub fresh-state : (t : ℕ) → state_in b d t ≡ no_arrays
  fresh-state t = ap (λ (c : Blocks). state_in c d t) blocks ∙ ap (λ (p : Places). state_in no_blocks p t) places ∙ nothing-in laws no_blocks t

  -- the service is sound
  pub fresh-server : length accounts ≡ 128 → length tenants ≤ 128 → ((t : ℕ) → entries_at accounts t ≡ 0) → ((t : ℕ) → account_pieces accounts t ≡ 0)
      → IsServer H b d accounts tenants
  fresh-server many few entries sizes =
      subst (λ (c : Blocks). IsServer H c d accounts tenants) (sym blocks)
      (subst (λ (p : Places). IsServer H no_blocks p accounts tenants) (sym places)
      (record {
        held = nothing-held laws;
        many = many;
        few = few;
        entries = λ t. entries t ∙ sym (ap used (nothing-in laws no_blocks t));
        pieces = λ t. sizes t ∙ sym (ap pieces (nothing-in laws no_blocks t));
        entries_within = λ t. let e = entries t in omega (arith, e);
        pieces_within = λ t. let e = sizes t in omega (arith, e);
        owned = owned-none laws (length tenants);
      }))

  -- no array has a name
  pub fresh-names : len d ≡ 0
  fresh-names = ap (λ (p : Places). len p) places ∙ len-empty string_order Stand
