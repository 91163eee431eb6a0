-- Records that are played again.
--     places_in t                     the places of the tenants, by their names
--     IsMadeAgain old event r new     the call that a record asks for was made, and this is what came
--     IsPassedOver old name r new     a record of a name that no tenant has was passed over
--     HaveLeft old names new          the tenants of these names left
--     Plays record old r new          a record was played, or it was not, for this reason
--     AreReplayed old records new     records were played, one after another
--     IsHalted old records halt new   the first that was not played, and why
--     PlaysAll records old r new      the records were played up to the first that cannot be
--     AreReplayed-append              records that were played, and then more, were played all together
use Rattle.std.proofs.Common.{subst}
use Rattle.std.specs.Prelude.{◌≡◌, ℕ, Bool, MatchBool, List, [], ◌∷◌, ◌++◌, length, map, Option, Some, None, Result, Ok, Err}
use Rattle.judy_journal.specs.declared.replays.Unplayed.{Unplayed}
use Rattle.judy_journal.specs.declared.replays.Unplayed.TheVariants as unplayed
use Rattle.judy_journal.specs.Leaving.{gone_in}
use Rattle.judy_journal.specs.Replays.{Places, Told, outcome, told}
use Rattle.judy_model.specs.declared.calls.Call.{Call}
use Rattle.judy_model.specs.declared.quotas.Right.TheVariants.{Change}
use Rattle.judy_model.specs.declared.replies.Reply.{Reply}
use Rattle.judy_model.specs.Speakers.{Event}
use Rattle.judy_table.specs.declared.tenant.Tenant.{Tenant}
use Rattle.judy_table.specs.Tenants.{place_of}
use Rattle.judy_tenants.specs.Changes.{HasFreed}
use Rattle.judy_tenants.specs.Held.{IsSoundService}
use Rattle.judy_server.specs.declared.records.Halt.{Halt}
use Rattle.judy_server.specs.Served.{IsServedStep}
use Rattle.judy_server.specs.Tally.{Tallied, can_note, is_among, with_absent, without_absent}

-- the places of the tenants, by their names
abbrev pub places_in : Tallied → Places
places_in t name = place_of name t.held.tenants

-- a call of the tenant at this place, with the right to change arrays
abbrev pub changing : ℕ → Call → Event
changing place call = record { speaker = record { tenant = place; right = Change }; call = call }

-- the call was made, and its reply says whether the record was played
pub record IsMadeAgain (old : Tallied) (event : Event) (result : Result (Unit {0}) Unplayed) (new : Tallied) : Type 0 where
  pub reply : Reply
  pub made : IsServedStep old event reply new
  pub result_is : result ≡ outcome reply

-- A record of a name that no tenant has was passed over, and the name is noted as absent. Where 64 others are absent
-- already the record is refused, and nothing changed.
abbrev pub IsPassedOver : Tallied → List ℕ → Result (Unit {0}) Unplayed → Tallied → Type 0
IsPassedOver old name result new = MatchBool (can_note old.tally.absent name)
    ((result ≡ Ok tt) × (new ≡ record old { tally = with_absent name old.tally }))
    ((result ≡ Err unplayed.Tenant) × (new ≡ old))

-- the places whose tenant has one of these names
abbrev pub marks_of : List (List ℕ) → List Tenant → List Bool
marks_of names rows = map (λ row. is_among names row.name) rows

-- The tenants of these names left: all their arrays were freed, and nobody else's. The rows stay: they are those of
-- tenants of the same names who came later. A name that was absent is so no more.
pub record HaveLeft (old : Tallied) (names : List (List ℕ)) (new : Tallied) : Type 0 where
  pub held : HasFreed (marks_of names old.held.tenants) old.held new.held
  pub sound : IsSoundService new.held
  pub tally : new.tally ≡ without_absent names old.tally

-- the change of a record was made again by the tenant at this place; or no tenant has its name, and it was passed over
abbrev pub PlaysChange : Told → Option ℕ → Tallied → Result (Unit {0}) Unplayed → Tallied → Type 0
PlaysChange change (Some place) old result new = IsMadeAgain old (changing place change.call) result new
PlaysChange change None old result new = IsPassedOver old change.name result new

-- the tenants that a record names left; or the record tells nothing, and nothing changed
abbrev pub PlaysLeaving : Option (List (List ℕ)) → Tallied → Result (Unit {0}) Unplayed → Tallied → Type 0
PlaysLeaving (Some names) old result new = (result ≡ Ok tt) × HaveLeft old names new
PlaysLeaving None old result new = (result ≡ Err unplayed.Record) × (new ≡ old)

-- by what the record tells: a change, or who left
abbrev pub PlaysAs : Option Told → Option (List (List ℕ)) → Tallied → Result (Unit {0}) Unplayed → Tallied → Type 0
PlaysAs (Some change) left old result new = PlaysChange change (places_in old change.name) old result new
PlaysAs None left old result new = PlaysLeaving left old result new

-- The record was played, or it was not: it tells neither a change nor who left, it names one absent tenant too many,
-- or its call was refused. Nothing else decides which of these it is.
abbrev pub Plays : List ℕ → Tallied → Result (Unit {0}) Unplayed → Tallied → Type 0
Plays bytes old result new = PlaysAs (told bytes) (gone_in bytes) old result new

-- records were played, one after another
abbrev pub AreReplayed : Tallied → List (List ℕ) → Tallied → Type 0
AreReplayed old [] new = new ≡ old
AreReplayed old (bytes ∷ records) new = (mid : Tallied) × Plays bytes old (Ok tt) mid × AreReplayed mid records new

-- so many records were played, and the next one was not, for this reason
pub record IsHalted (old : Tallied) (records : List (List ℕ)) (halt : Halt) (new : Tallied) : Type 0 where
  pub done : List (List ℕ)
  pub bytes : List ℕ
  pub rest : List (List ℕ)
  pub parts : records ≡ done ++ bytes ∷ rest
  pub count : length done ≡ halt.played
  pub mid : Tallied
  pub played : AreReplayed old done mid
  pub halted : Plays bytes mid (Err halt.why) new

-- the records were played, one after another, up to the first that was not
abbrev pub PlaysAll : List (List ℕ) → Tallied → Result (Unit {0}) Halt → Tallied → Type 0
PlaysAll records old (Ok all) new = AreReplayed old records new
PlaysAll records old (Err halt) new = IsHalted old records halt new

-- records and then more records are played as all of them together
pub AreReplayed-append : (records more : List (List ℕ)) (before middle after : Tallied) → AreReplayed before records middle
    → AreReplayed middle more after → AreReplayed before (records ++ more) after
AreReplayed-append [] more before middle after same next = subst (λ (t : Tallied). AreReplayed t more after) same next
AreReplayed-append (bytes ∷ records) more before middle after (mid, first, rest) next =
    (mid, first, AreReplayed-append records more mid middle after rest next)
