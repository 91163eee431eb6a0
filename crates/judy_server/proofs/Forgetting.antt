-- Counts of places that have no tenant are forgotten, one place after another.
use Rattle.std.proofs.Common.{◌≡◌, ◌∙◌, ℕ, zero, suc, Bool, cond, List, [], ◌∷◌, Some, ap, arith, drop, length, map, refl, subst, sym}
use Rattle.std.specs.Prelude.{slice_get, slice_set}
use Rattle.judy_table.specs.declared.tenant.Tenant.{Tenant}
use Rattle.judy_table.specs.Tenants.{is_vacant}
use Rattle.judy_server.specs.Reloads.{forgotten}

forgotten-step : (from place : ℕ) (rows : List Tenant) (vacant : Bool) (counts : List ℕ) → slice_get (map is_vacant rows) place ≡ Some vacant
    → forgotten from (drop place rows) counts ≡ forgotten (suc from) (drop (suc place) rows) (cond vacant (slice_set counts from 0) counts)
unfolding forgotten
forgotten-step from place [] vacant counts e = cc
forgotten-step from zero (row ∷ rows) vacant counts e =
    let same : is_vacant row ≡ vacant = cc in ap (λ b. forgotten (suc from) rows (cond b (slice_set counts from 0) counts)) same
forgotten-step from (suc place) (row ∷ rows) vacant counts e = forgotten-step from place rows vacant counts e

forgotten-none : (from place : ℕ) (rows : List Tenant) (counts : List ℕ) → length rows ≡ place → forgotten from (drop place rows) counts ≡ counts
unfolding forgotten
forgotten-none from zero [] counts e = refl
forgotten-none from (suc place) [] counts e = refl
forgotten-none from zero (row ∷ rows) counts e = absurd (omega (arith, e))
forgotten-none from (suc place) (row ∷ rows) counts e = forgotten-none from place rows counts (omega (arith, e))

-- one place more
pub forgotten_on : (place next : ℕ) (rows : List Tenant) (vacant : Bool) (counts counts' all : List ℕ) → next ≡ suc place
    → slice_get (map is_vacant rows) place ≡ Some vacant → counts' ≡ cond vacant (slice_set counts place 0) counts
    → forgotten place (drop place rows) counts ≡ all → forgotten next (drop next rows) counts' ≡ all
forgotten_on place next rows vacant counts counts' all after is set so =
    subst (λ k. forgotten k (drop k rows) counts' ≡ all) (sym after)
    (ap (forgotten (suc place) (drop (suc place) rows)) set ∙ sym (forgotten-step place place rows vacant counts is) ∙ so)

-- all places
pub forgotten_all : (place : ℕ) (rows : List Tenant) (counts all : List ℕ) → length rows ≡ place → forgotten place (drop place rows) counts ≡ all → counts ≡ all
forgotten_all place rows counts all e so = sym (forgotten-none place place rows counts e) ∙ so
