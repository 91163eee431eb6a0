-- Names and their places.
--     named-by-place    the name of a place that a table has is the one that leads there
use Rattle.std.proofs.Common.{◌≡◌, ℕ, List, Some, sym, ◌∙◌, get_or}
use Rattle.std.specs.Str.{bytes_eq}
use Rattle.std.proofs.lemmas.List.Quantifiers.{position-Some}
use Rattle.std.proofs.lemmas.Slice.Eq.{bytes_eq-Decides}
use Rattle.judy_journal.specs.Replays.{IsNamed}
use Rattle.judy_table.specs.declared.tenant.Tenant.{Tenant}
use Rattle.judy_table.specs.Tenants.{place_of, vacant}

-- the name of a place that a table has is the one that leads there
pub named-by-place : (tenants : List Tenant) (t : ℕ) (name : List ℕ) → place_of name tenants ≡ Some t → IsNamed (λ n. place_of n tenants) t name
named-by-place tenants t name found = (found, λ other there. sym (reads other there) ∙ reads name found)
  where
    reads : (n : List ℕ) → place_of n tenants ≡ Some t → (get_or tenants t vacant).name ≡ n
    reads n e = (bytes_eq-Decides (get_or tenants t vacant).name n).0 (position-Some (λ (r : Tenant). bytes_eq r.name n) tenants t vacant e).1
