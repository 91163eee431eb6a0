-- What a connection needs to know of the service that answers it.
use Rattle.std.specs.Prelude.{◌≡◌, ℕ, Bool, true, List, [], ◌∷◌, Option, Some, None}
use Rattle.judy_model.specs.declared.calls.Call.{Call}
use Rattle.judy_model.specs.declared.replies.Reply.{Reply}
use Rattle.judy_model.specs.declared.requests.Line.TheVariants as request
use Rattle.judy_model.specs.Reading.{request_of}
use Rattle.judy_model.specs.Service.{Quotas, States, IsServed}
use Rattle.judy_model.specs.Speakers.{Speaker, Event}
use Rattle.judy_model.specs.Stream.{Login}

-- the visible state of a service: who has which name and token, who may speak, the name of the tenant at
-- each place, and each tenant's quota and arrays
pub record Seen : Type 0 where
  pub logins : Login
  pub speakers : Speaker → Bool
  pub names : ℕ → List ℕ
  pub quotas : Quotas
  pub states : States

-- a call gets its reply as from the service of many tenants; no name, token or quota changes
pub record IsCalled (before : Seen) (event : Event) (reply : Reply) (after : Seen) : Type 0 where
  pub served : IsServed before.quotas before.states event reply after.states
  pub quotas : after.quotas ≡ before.quotas
  pub logins : after.logins ≡ before.logins
  pub speakers : after.speakers ≡ before.speakers
  pub names : after.names ≡ before.names

-- this speaker may speak
abbrev pub IsKnown : (Speaker → Bool) → Speaker → Type 0
IsKnown speakers who = speakers who ≡ true

-- the speaker, if any, may speak
abbrev pub HasLoggedIn : (Speaker → Bool) → Option Speaker → Type 0
HasLoggedIn speakers None = Unit {0}
HasLoggedIn speakers (Some who) = IsKnown speakers who

-- a line asks for this call
abbrev pub IsAsked : Call → Type 0
IsAsked call = (line : List ℕ) × (request_of line ≡ Some (request.Call call))

-- the step of a service of kind S for an event, with its reply
abbrev pub Made : Type 0 → Type 1
Made S = S → Event → Reply → S → Type 0

-- the service made the events with these replies, one after another
abbrev pub AreMade : {S : Type 0} → Made S → S → List (Event × Reply) → S → Type 0
AreMade made s [] last = last ≡ s
AreMade {S} made s (p ∷ ps) last = (mid : S) × made s p.0 p.1 mid × AreMade made mid ps last
