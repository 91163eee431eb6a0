-- Many tenants, each a number with a quota and a state. A tenant that is not in the table has no
-- arrays.
use Rattle.std.specs.Prelude.{◌≡◌, ◌≢◌, ◌↔◌, ◌+◌, ℕ, zero, suc, List, [], ◌∷◌, ◌++◌, map, filter, zip, length, ◌==◌}
use Rattle.judy_model.specs.declared.quotas.Quota.{Quota}
use Rattle.judy_model.specs.declared.replies.Reply.{Reply}
use Rattle.judy_model.specs.Tenant.{State, pieces}
use Rattle.judy_model.specs.Speakers.{Event, attempt_of}
use Rattle.judy_model.specs.Solo.{Exchanges, attempts_of, refusals, IsAnswered, IsSolo}

-- each tenant's quota
abbrev pub Quotas : Type 0
Quotas = ℕ → Quota

-- each tenant's state
abbrev pub States : Type 0
States = ℕ → State

-- the pieces of the first n tenants, added up
abbrev pub all_pieces : ℕ → States → ℕ
all_pieces zero states = 0
all_pieces (suc n) states = all_pieces n states + pieces (states n)

-- the tenant's calls among answered events, with their replies
abbrev pub own : ℕ → List (Event × Reply) → Exchanges
own tenant answered = map (λ p. (attempt_of p.0, p.1)) (filter (λ p. p.0.speaker.tenant == tenant) answered)

-- the tenant's events
abbrev pub events_by : ℕ → List Event → List Event
events_by tenant events = filter (λ e. e.speaker.tenant == tenant) events

-- one call: its tenant is answered as if it were alone, or refused for memory, and no other
-- tenant's arrays change
pub record IsServed (quotas : Quotas) (before : States) (event : Event) (reply : Reply) (after : States) : Type 0 where
  pub answered : let t = event.speaker.tenant in IsAnswered (quotas t) (before t) (attempt_of event) reply (after t)
  pub others : (tenant : ℕ) → tenant ≢ event.speaker.tenant → after tenant ≡ before tenant

-- Each event has its reply. Each tenant gets the replies that it would get alone, with its calls
-- refused for memory left out.
pub record AreServed (quotas : Quotas) (before : States) (events : List Event) (replies : List Reply) (after : States) : Type 0 where
  pub count : length replies ≡ length events
  pub solo : (tenant : ℕ) → IsSolo (quotas tenant) (before tenant) (own tenant (zip events replies)) (after tenant)

-- a run of one call is that call
abbrev pub ServingIsStepwise : Type 0
ServingIsStepwise = (quotas : Quotas) (before after : States) (event : Event) (reply : Reply)
    → IsServed quotas before event reply after ↔ AreServed quotas before (event ∷ []) (reply ∷ []) after

-- two consecutive runs are one run, and a run can be cut anywhere
abbrev pub ServingGoesOn : Type 0
ServingGoesOn = (quotas : Quotas) (before last : States) (events more : List Event) (replies others : List Reply) → length replies ≡ length events
    → AreServed quotas before (events ++ more) (replies ++ others) last
    ↔ ((mid : States) × AreServed quotas before events replies mid × AreServed quotas mid more others last)

-- Take a tenant of one service and a tenant of another. If their quotas, states and calls are
-- equal, with refusals for memory at the same places, then their replies and last states are equal.
-- What other tenants do makes no difference.
abbrev pub ServingIsDetermined : Type 0
ServingIsDetermined = (quotas quotas' : Quotas) (before before' after after' : States) (events events' : List Event) (replies replies' : List Reply)
    → AreServed quotas before events replies after → AreServed quotas' before' events' replies' after'
    → (t u : ℕ) → quotas t ≡ quotas' u → before t ≡ before' u
    → let mine = own t (zip events replies) in let theirs = own u (zip events' replies') in
    attempts_of mine ≡ attempts_of theirs → refusals mine ≡ refusals theirs
    → (mine ≡ theirs) × (after t ≡ after' u)

-- a tenant that makes no call keeps its arrays
abbrev pub IdleTenantsRest : Type 0
IdleTenantsRest = (quotas : Quotas) (before after : States) (events : List Event) (replies : List Reply) (tenant : ℕ)
    → AreServed quotas before events replies after → events_by tenant events ≡ [] → after tenant ≡ before tenant
