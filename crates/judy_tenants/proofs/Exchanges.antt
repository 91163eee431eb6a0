-- A call of an array of one tenant, answered or refused, and the invariant of a service.
use Rattle.std.proofs.Common.{◌≡◌, ◌≢◌, ◌⊎◌, ◌≤◌, ◌<◌, ◌+◌, ℕ, true, inl, inr, List, length, ap, sym, ◌∙◌, subst, arith}
use Rattle.std.proofs.lemmas.Bool.Decides.{eqb_tells}
use Rattle.judy_model.specs.declared.calls.Call.{Call}
use Rattle.judy_model.specs.Tenant.{State, used, pieces, new_pieces, has_room, allowed_step}
use Rattle.judy_model.proofs.lemmas.GrowthLemmas.{lifted}
use Rattle.judy_model.specs.WellFormed.{Grows}
use Rattle.judy_directory.specs.Places.{Stand, at, with_place}
use Rattle.judy_directory.specs.Shelf.{Places}
use Rattle.judy_table.specs.declared.tenant.Tenant.{Tenant}
use Rattle.judy_kinds.specs.Kinds.{IsPlaceOf, entries_of, pieces_at as pieces_of_array}
use Rattle.judy_kinds.specs.Calls.{kind_of_call, name_of_call, asks_at, AnswersAt, ArrayBecomes}
use Rattle.judy_tenants.specs.declared.accounts.Account.{Account}
use Rattle.judy_tenants.specs.declared.stock.Stock.{Stock}
use Rattle.judy_tenants.specs.declared.stock.Answered.{Answered}
use Rattle.judy_tenants.specs.Held.{quotas_of}
use Rattle.judy_tenants.proofs.Steps.{HasWay}
use Rattle.judy_tenants.specs.States.{state_in, sizes_in, IsHeld, key_of_call}
use Rattle.judy_tenants.specs.Growth.{KindLaws, AddsOne, CallsAddOne}
use Rattle.judy_tenants.proofs.StateLaws.{Change as IsChange, place-in, step-in, others-in, other-sizes-in, held-in, used-in, pieces-in, used-within, pieces-within}
use Rattle.judy_tenants.specs.Accounts.{IsOwned, entries_at, account_pieces, IsServer}
use Rattle.judy_tenants.proofs.Space.{owned-in}
use Rattle.judy_tenants.specs.Stocks.{IsStocked, IsExchange, IsRefusedIn}
use Rattle.judy_tenants.proofs.Rooms.{entries-bounded, pieces-bounded}

module _ {H : List ℕ → ℕ} (laws : KindLaws H) {tenants : List Tenant} {old new : Stock} (s : IsStocked H tenants old) (t : ℕ)
    (c : Call) (known : t < length tenants)
    (answer : Answered) (x : IsExchange H (key_of_call t c) c old new answer) (adds : CallsAddOne)
    (way : HasWay (asks_at old.arena.blocks (at old.directory.0 (key_of_call t c)).root c)
    (has_room (quotas_of tenants t) (state_in old.arena.blocks old.directory.0 t) c)) where
  -- the place before the call, and the tenant's state before and after
  abbrev before : Stand
  before = at old.directory.0 (key_of_call t c)

  abbrev was : State
  was = state_in old.arena.blocks old.directory.0 t

  abbrev is : State
  is = state_in new.arena.blocks new.directory.0 t

  -- the one array changed
  change : IsChange H old.arena new.arena old.directory.0 t (kind_of_call c) (name_of_call c) answer.after
  change = record { shelf = s.held; became = subst (λ (p : Stand). ArrayBecomes H (kind_of_call c) old.arena p new.arena answer.after) x.before x.array }

  answers : AnswersAt old.arena.blocks before.root c answer.reply new.arena.blocks answer.after.root
  answers = subst (λ (p : Stand). AnswersAt old.arena.blocks p.root c answer.reply new.arena.blocks answer.after.root) x.before x.step

  -- its tenant is answered by its own step
  pub own-step : allowed_step (quotas_of tenants t) was c ≡ (answer.reply, is)
  own-step = step-in laws (quotas_of tenants t) c answer.reply change answers way
      ∙ ap (λ (p : Places). (answer.reply, state_in new.arena.blocks p t)) (sym x.places)

  -- the other tenants' arrays are unchanged
  pub others-rest : (u : ℕ) → u ≢ t → state_in new.arena.blocks new.directory.0 u ≡ state_in old.arena.blocks old.directory.0 u
  others-rest u h = ap (λ (p : Places). state_in new.arena.blocks p u) x.places ∙ others-in laws change u h

  -- so are the words of each
  pub other-sizes-rest : (u : ℕ) → u ≢ t → sizes_in new.arena.blocks new.directory.0 u ≡ sizes_in old.arena.blocks old.directory.0 u
  other-sizes-rest u h = ap (λ (p : Places). sizes_in new.arena.blocks p u) x.places ∙ other-sizes-in laws change u h

  -- the array's numbers are part of the tenant's
  pub before-entries : answer.before.entries ≤ used was
  before-entries = subst (λ (p : Stand). p.entries ≤ used was) (sym x.before)
      (used-within laws (kind_of_call c) old.arena.blocks old.directory.0 t (name_of_call c) s.held)

  pub before-pieces : answer.before.pieces ≤ pieces was
  before-pieces = subst (λ (p : Stand). p.pieces ≤ pieces was) (sym x.before) (pieces-within laws (kind_of_call c) old.arena.blocks
      old.directory.0 t (name_of_call c) s.held)

  -- the tenant's numbers change as the array's do
  pub used-moved : used is + answer.before.entries ≡ used was + answer.after.entries
  used-moved =
      ap (λ (p : Places). used (state_in new.arena.blocks p t) + answer.before.entries) x.places
      ∙ ap (λ (p : Stand). used (state_in new.arena.blocks (with_place old.directory.0 (key_of_call t c) answer.after) t) + p.entries)
      x.before ∙ used-in laws change

  pub pieces-moved : pieces is + answer.before.pieces ≡ pieces was + answer.after.pieces
  pieces-moved =
      ap (λ (p : Places). pieces (state_in new.arena.blocks p t) + answer.before.pieces) x.places
      ∙ ap (λ (p : Stand). pieces (state_in new.arena.blocks (with_place old.directory.0 (key_of_call t c) answer.after) t) + p.pieces)
      x.before ∙ pieces-in laws change

  -- the array grew by at most one entry
  place-before : IsPlaceOf H (kind_of_call c) old.arena.blocks before
  place-before = place-in laws (kind_of_call c) old.arena.blocks old.directory.0 t (name_of_call c) s.held

  grown : AddsOne old.arena.blocks before.root c new.arena.blocks answer.after.root
  grown = adds H c old.arena.blocks new.arena.blocks before.root answer.after.root answer.reply place-before.sound answers

  used-grown : Grows (asks_at old.arena.blocks before.root c) true 1 (used was) (used is)
  used-grown =
      lifted (asks_at old.arena.blocks before.root c) true 1 answer.before.entries answer.after.entries (used was) (used is) used-moved
      (subst (λ n. Grows (asks_at old.arena.blocks before.root c) true 1 n answer.after.entries)
      (sym (ap (λ (p : Stand). p.entries) x.before ∙ place-before.entries))
      (subst (λ n. Grows (asks_at old.arena.blocks before.root c) true 1 (entries_of (kind_of_call c) old.arena.blocks before.root) n)
      (sym x.array.place.entries) grown.entries))

  pieces-grown : Grows (asks_at old.arena.blocks before.root c) true (new_pieces c) (pieces was) (pieces is)
  pieces-grown =
      lifted (asks_at old.arena.blocks before.root c) true (new_pieces c) answer.before.pieces answer.after.pieces (pieces was) (pieces is) pieces-moved
      (subst (λ n. Grows (asks_at old.arena.blocks before.root c) true (new_pieces c) n answer.after.pieces)
      (sym (ap (λ (p : Stand). p.pieces) x.before ∙ place-before.pieces))
      (subst (λ n. Grows (asks_at old.arena.blocks before.root c) true (new_pieces c)
      (pieces_of_array (kind_of_call c) old.arena.blocks before.root) n) (sym x.array.place.pieces) grown.pieces))

  -- so the tenant stays within its quota
  pub used-fits : used is ≤ (quotas_of tenants t).entries
  used-fits =
      let within : used was ≤ (quotas_of tenants t).entries = subst (λ n. n ≤ (quotas_of tenants t).entries) (s.entries t) (s.entries_within t) in
      entries-bounded (asks_at old.arena.blocks before.root c) (quotas_of tenants t) was c (used is) used-grown way within

  pub pieces-fit : pieces is ≤ (quotas_of tenants t).pieces
  pieces-fit =
      let within : pieces was ≤ (quotas_of tenants t).pieces = subst (λ n. n ≤ (quotas_of tenants t).pieces) (s.pieces t) (s.pieces_within t) in
      pieces-bounded (asks_at old.arena.blocks before.root c) (quotas_of tenants t) was c (pieces is) pieces-grown way within

  -- the service is sound once the account is updated
  module _ (accounts : List Account) (many : length accounts ≡ length old.accounts.items)
      (entries : entries_at accounts t + answer.before.entries ≡ entries_at old.accounts.items t + answer.after.entries)
      (sizes : account_pieces accounts t + answer.before.pieces ≡ account_pieces old.accounts.items t + answer.after.pieces)
      (other_entries : (u : ℕ) → u ≢ t → entries_at accounts u ≡ entries_at old.accounts.items u)
      (other_sizes : (u : ℕ) → u ≢ t → account_pieces accounts u ≡ account_pieces old.accounts.items u) where
    entries-here : entries_at accounts t ≡ used is
    entries-here = let e : entries_at old.accounts.items t ≡ used was = s.entries t in let m = used-moved in omega (arith, entries, e, m)

    pieces-here : account_pieces accounts t ≡ pieces is
    pieces-here = let e : account_pieces old.accounts.items t ≡ pieces was = s.pieces t in let m = pieces-moved in omega (arith, sizes, e, m)

    counted : (u : ℕ) → (entries_at accounts u ≡ used (state_in new.arena.blocks new.directory.0 u))
        × (account_pieces accounts u ≡ pieces (state_in new.arena.blocks new.directory.0 u))
        × (entries_at accounts u ≤ (quotas_of tenants u).entries) × (account_pieces accounts u ≤ (quotas_of tenants u).pieces)
    counted u = by (eqb_tells u t)
      where
        by : {A B : Type 0} → (A × (u ≡ t)) ⊎ (B × (u ≢ t)) → (entries_at accounts u ≡ used (state_in new.arena.blocks new.directory.0 u))
            × (account_pieces accounts u ≡ pieces (state_in new.arena.blocks new.directory.0 u))
            × (entries_at accounts u ≤ (quotas_of tenants u).entries) × (account_pieces accounts u ≤ (quotas_of tenants u).pieces)
        by (inl h) = subst (λ v. (entries_at accounts v ≡ used (state_in new.arena.blocks new.directory.0 v))
            × (account_pieces accounts v ≡ pieces (state_in new.arena.blocks new.directory.0 v))
            × (entries_at accounts v ≤ (quotas_of tenants v).entries) × (account_pieces accounts v ≤ (quotas_of tenants v).pieces)) (sym h.1) (
              entries-here,
              pieces-here,
              subst (λ n. n ≤ (quotas_of tenants t).entries) (sym entries-here) used-fits,
              subst (λ n. n ≤ (quotas_of tenants t).pieces) (sym pieces-here) pieces-fit,
            )
        by (inr h) = (
          other_entries u h.1 ∙ s.entries u ∙ ap used (sym (others-rest u h.1)),
          other_sizes u h.1 ∙ s.pieces u ∙ ap pieces (sym (others-rest u h.1)),
          subst (λ n. n ≤ (quotas_of tenants u).entries) (sym (other_entries u h.1)) (s.entries_within u),
          subst (λ n. n ≤ (quotas_of tenants u).pieces) (sym (other_sizes u h.1)) (s.pieces_within u),
        )

    pub settled-stock : IsServer H new.arena.blocks new.directory.0 accounts tenants
    settled-stock = record {
      held = subst (IsHeld H new.arena.blocks) (sym x.places) (held-in laws change);
      many = many ∙ s.many;
      few = s.few;
      entries = λ u. (counted u).0;
      pieces = λ u. (counted u).1;
      entries_within = λ u. (counted u).2;
      pieces_within = λ u. (counted u).3;
      owned = subst (IsOwned (length tenants) new.arena.blocks) (sym x.places) (owned-in laws (length tenants) change known s.owned);
    }

module _ {H : List ℕ → ℕ} {tenants : List Tenant} {old new : Stock} (s : IsStocked H tenants old) (key : List ℕ) (c : Call)
    (x : IsRefusedIn key c old new) where
  -- after a refusal the service is unchanged
  pub refused-stock : IsStocked H tenants new
  refused-stock =
      subst (λ b. IsServer H b new.directory.0 new.accounts.items tenants) (sym x.blocks)
      (subst (λ p. IsServer H old.arena.blocks p new.accounts.items tenants) (sym x.places)
      (subst (λ a. IsServer H old.arena.blocks old.directory.0 a tenants) (sym x.accounts) s))

  pub refused-rest : (u : ℕ) → state_in new.arena.blocks new.directory.0 u ≡ state_in old.arena.blocks old.directory.0 u
  refused-rest u = ap (λ b. state_in b new.directory.0 u) x.blocks ∙ ap (λ p. state_in old.arena.blocks p u) x.places

  pub refused-sizes : (u : ℕ) → sizes_in new.arena.blocks new.directory.0 u ≡ sizes_in old.arena.blocks old.directory.0 u
  refused-sizes u = ap (λ b. sizes_in b new.directory.0 u) x.blocks ∙ ap (λ p. sizes_in old.arena.blocks p u) x.places
