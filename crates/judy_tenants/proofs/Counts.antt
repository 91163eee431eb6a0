-- The accounts after one of them changed.
use Rattle.std.proofs.Common.{◌≡◌, ◌≢◌, ◌+◌, ◌-◌, ◌<◌, ◌≤◌, ℕ, List, ap, sym, ◌∙◌, refl, map, subst, get_or, length, replicate}
use Rattle.std.proofs.Common.{arith, true, false, nat_lt, Some}
use Rattle.std.specs.List.{slice_get}
use Rattle.std.proofs.lemmas.List.{map-set, get_or-set_same, get_or-set_other, length-map, get_or-map, get_or_past, get_or-replicate, length-replicate}
use Rattle.std.proofs.lemmas.Bool.{ltb-true, ltb-false}
use Rattle.std.proofs.lemmas.Option.{get_or_from_slice_get}
use Rattle.std.proofs.Math.ListN.{set}
use Rattle.judy_model.specs.declared.quotas.Quota.{Quota}
use Rattle.judy_table.specs.declared.tenant.Tenant.{Tenant}
use Rattle.judy_tenants.specs.declared.accounts.Account.{Account}
use Rattle.judy_tenants.specs.Held.{quotas_of, no_quota}

module _ (f : Account → ℕ) where
  -- a number of each account
  abbrev all : List Account → List ℕ
  all xs = map f xs

  pub set-here : (xs : List Account) (i : ℕ) (a : Account) → i < length xs → get_or (all (set xs i a)) i 0 ≡ f a
  set-here xs i a h =
      ap (λ l. get_or l i 0) (map-set f xs i a) ∙ get_or-set_same (all xs) i (f a) 0 (subst (λ m. i < m) (sym (length-map xs f)) h)

  pub set-there : (xs : List Account) (i : ℕ) (a : Account) (t : ℕ) → t ≢ i → get_or (all (set xs i a)) t 0 ≡ get_or (all xs) t 0
  set-there xs i a t h = ap (λ l. get_or l t 0) (map-set f xs i a) ∙ get_or-set_other (all xs) i t (f a) 0 h

  -- the number after a part of it was replaced
  pub settled : (xs : List Account) (t i : ℕ) (a d : Account) (b q b' q' : ℕ) → i ≡ t → t < length xs → b ≤ get_or (all xs) t 0
      → f a ≡ f (get_or xs i d) - b' + q' → b' ≡ b → q' ≡ q
      → get_or (all (set xs i a)) t 0 + b ≡ get_or (all xs) t 0 + q
  settled xs t i a d b q b' q' e h within counted same same' =
      let new : get_or (all (set xs i a)) t 0 ≡ f a = ap (λ j. get_or (all (set xs i a)) j 0) (sym e) ∙ set-here xs i a
      (subst (λ j. j < length xs) (sym e) h) in
      let old : get_or (all xs) t 0 ≡ f (get_or xs i d) = get_or-map f xs t d 0 h ∙ ap (λ j. f (get_or xs j d)) (sym e) in
      omega (arith, new, old, counted, within, same, same')

  pub settled-others : (xs : List Account) (t i : ℕ) (a : Account) → i ≡ t → (u : ℕ) → u ≢ t → get_or (all (set xs i a)) u 0 ≡ get_or (all xs) u 0
  settled-others xs t i a e u h = set-there xs i a u (λ j. h (j ∙ e))

  -- all accounts are 0 at first
  pub nobody : (n : ℕ) (a : Account) → f a ≡ 0 → (t : ℕ) → get_or (all (replicate n a)) t 0 ≡ 0
  nobody n a none t = elim (nat_lt t n) as (λ b. nat_lt t n ≡ b → get_or (all (replicate n a)) t 0 ≡ 0) [
    | true ↦ λ h. here (ltb-true t n h)
    | false ↦ λ h. past (ltb-false t n h)
  ] refl
    where
      here : t < n → get_or (all (replicate n a)) t 0 ≡ 0
      here h = get_or-map f (replicate n a) t a 0 (subst (λ m. t < m) (sym (length-replicate n a)) h) ∙ ap f (get_or-replicate n t a a h) ∙ none

      past : n ≤ t → get_or (all (replicate n a)) t 0 ≡ 0
      past h = get_or_past (all (replicate n a)) t 0 (subst (λ m. m ≤ t) (sym (length-map (replicate n a) f ∙ length-replicate n a)) h)

-- a tenant of the table has one of the accounts that were read
pub has-account : (read accounts : List Account) (tenants : List Tenant) (t : ℕ) → read ≡ accounts → length accounts ≡ 128 → length tenants ≤ 128
    → t < length tenants → t < length read
has-account read accounts tenants t e many few known = subst (λ l. t < length l) (sym e) (omega (arith, many, few, known))

-- the quota of a tenant that was read
pub quota-read : (tenants : List Tenant) (t : ℕ) (q : Quota) → slice_get (map (λ tenant. tenant.quota) tenants) t ≡ Some q → quotas_of tenants t ≡ q
quota-read tenants t q h = get_or_from_slice_get (map (λ tenant. tenant.quota) tenants) t q no_quota h
