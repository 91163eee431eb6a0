-- Runs whose changes are recorded, and the arrays that the records give when they are replayed.
--     after_call s call             the arrays after a call that is not refused, whatever the quota is
--     HasAnswered before e r after  one call of a run; between calls quotas may change
--     HaveAnswered before ps after  calls one after another
--     recorded_calls t ps           the calls of a tenant that are recorded
--     record_of name line           the record of a line: who asked, and the line
--     told record                   the change that a record tells; None if it tells none
--     calls_named name records      the calls that records tell of this tenant
--     event_told places record      the call that a record asks to be made, or why none can be made
--     outcome reply                 what the reply to that call says of the record
--     AreRecords places ps records  these are the records of the calls
use Rattle.std.specs.Prelude.{◌≡◌, ◌⊎◌, ℕ, ◌+◌, true, false, ◌&&◌, List, [], ◌∷◌, ◌++◌, map, IsTrue, ◌↔◌, ◌==◌}
use Rattle.std.specs.Prelude.{Option, Some, None, option_map, Result, Ok, Err, if◌then◌else◌}
use Rattle.std.specs.List.{filter_map}
use Rattle.std.specs.Str.{bytes_eq}
use Rattle.judy_model.specs.declared.calls.Call.{Call}
use Rattle.judy_model.specs.declared.quotas.Quota.{Quota}
use Rattle.judy_model.specs.declared.quotas.Right.TheVariants.{Change}
use Rattle.judy_model.specs.declared.replies.Reply.{Reply}
use Rattle.judy_model.specs.declared.replies.Reply.TheVariants.{Full, ReadOnly, Frozen, Memory}
use Rattle.judy_protocol.specs.Plain.{counts, is_refused}
use Rattle.judy_model.specs.declared.requests.Line.{Line}
use Rattle.judy_model.specs.declared.requests.Line.TheVariants as request
use Rattle.judy_journal.specs.declared.replays.Unplayed.{Unplayed}
use Rattle.judy_journal.specs.declared.replays.Unplayed.TheVariants as unplayed
use Rattle.judy_model.specs.Grammar.{is_space, is_name}
use Rattle.judy_model.specs.Reading.{request_of}
use Rattle.judy_model.specs.Service.{Quotas, States, IsServed}
use Rattle.judy_model.specs.Speakers.{Event}
use Rattle.judy_model.specs.Tenant.{State, used, pieces, new_pieces, changes, allowed_step}
use Rattle.judy_model.specs.WellFormed.{IsWellFormed}

-- ---- calls that are recorded

-- a quota that has room for this call
abbrev pub ample : State → Call → Quota
ample s call = record { entries = used s + 1; pieces = pieces s + new_pieces call }

-- the tenant's arrays after a call that is not refused, whatever its quota is
abbrev pub after_call : State → Call → State
after_call s call = (allowed_step (ample s call) s call).1

-- the tenant's arrays after these calls, none of them refused
abbrev pub after_calls : State → List Call → State
after_calls s [] = s
after_calls s (call ∷ calls) = after_calls (after_call s call) calls

-- ---- runs

-- A call got its reply, under some quotas: these may have changed since the call before, when the
-- arrays stayed. The arrays were well-formed.
pub record HasAnswered (before : States) (event : Event) (reply : Reply) (after : States) : Type 0 where
  pub quotas : Quotas
  pub now : States
  pub same : (t : ℕ) → now t ≡ before t
  pub form : (t : ℕ) → IsWellFormed (before t)
  pub served : IsServed quotas now event reply after

-- calls got their replies, one after another
abbrev pub HaveAnswered : States → List (Event × Reply) → States → Type 0
HaveAnswered before [] after = (t : ℕ) → after t ≡ before t
HaveAnswered before (p ∷ ps) after = (mid : States) × HasAnswered before p.0 p.1 mid × HaveAnswered mid ps after

-- the call, if it is one of this tenant that is recorded
abbrev pub call_recorded : ℕ → Event × Reply → Option Call
call_recorded tenant p = if p.0.speaker.tenant == tenant && counts p.0 p.1 then Some p.0.call else None

-- the calls of a tenant that are recorded, in order
abbrev pub recorded_calls : ℕ → List (Event × Reply) → List Call
recorded_calls tenant answered = filter_map (call_recorded tenant) answered

-- a call that is not recorded changes no array of any tenant
abbrev pub OthersKeepAll : Type 0
OthersKeepAll = (before after : States) (event : Event) (reply : Reply) → HasAnswered before event reply after → counts event reply ≡ false
    → (t : ℕ) → after t ≡ before t

-- the arrays of a tenant after a run are those that its recorded calls make of the arrays before
abbrev pub RecordedCallsTellAll : Type 0
RecordedCallsTellAll = (before after : States) (answered : List (Event × Reply)) → HaveAnswered before answered after
    → (t : ℕ) → after t ≡ after_calls (before t) (recorded_calls t answered)

-- Take a tenant of one run and a tenant of another. If their arrays before and their recorded calls
-- are equal, so are their arrays afterwards, whatever their quotas, their rights and their other calls
-- are.
abbrev pub ReplaysAreExact : Type 0
ReplaysAreExact = (before before' after after' : States) (answered answered' : List (Event × Reply))
    → HaveAnswered before answered after → HaveAnswered before' answered' after'
    → (t u : ℕ) → before t ≡ before' u → recorded_calls t answered ≡ recorded_calls u answered' → after t ≡ after' u

-- ---- records

-- the record of a line: the name of the tenant that asked, a space, and the line
abbrev pub record_of : List ℕ → List ℕ → List ℕ
record_of name line = name ++ 32 ∷ line

-- a change, as a record tells it: the tenant's name and its call
pub record Told : Type 0 where
  pub name : List ℕ
  pub call : Call

-- the bytes before the first space and those after it; None if there is no space
abbrev pub parts_of : List ℕ → Option (List ℕ × List ℕ)
parts_of [] = None
parts_of (b ∷ bytes) = if is_space b then Some ([], bytes) else option_map (λ p. (b ∷ p.0, p.1)) (parts_of bytes)

-- the call, if the request is one that changes arrays
abbrev pub change_in : Option Line → Option Call
change_in (Some (request.Call call)) = if changes call then Some call else None
change_in _ = None

-- the call of a line, if it is one that changes arrays
abbrev pub change_of : List ℕ → Option Call
change_of line = change_in (request_of line)

abbrev pub told_in : Option (List ℕ × List ℕ) → Option Told
told_in None = None
told_in (Some p) = if is_name p.0 then option_map (λ call. record { name = p.0; call = call }) (change_of p.1) else None

-- the change that a record tells; None if it is not a name, a space, and a line that asks for a call
-- that changes arrays
abbrev pub told : List ℕ → Option Told
told record_text = told_in (parts_of record_text)

-- a record tells exactly the change of its line
abbrev pub RecordsTellOneChange : Type 0
RecordsTellOneChange = (bytes : List ℕ) (change : Told) → (told bytes ≡ Some change)
    ↔ ((line : List ℕ) × (bytes ≡ record_of change.name line) × IsTrue (is_name change.name)
    × (request_of line ≡ Some (request.Call change.call)) × IsTrue (changes change.call))

-- the call, if the change is one of this tenant
abbrev pub call_told : List ℕ → Option Told → Option Call
call_told name None = None
call_told name (Some change) = if bytes_eq change.name name then Some change.call else None

-- the calls that records tell of the tenant with this name, in order
abbrev pub calls_named : List ℕ → List (List ℕ) → List Call
calls_named name records = filter_map (call_told name) (map told records)

-- ---- the replay of a record

-- the places of tenants, by their names
abbrev pub Places : Type 0
Places = List ℕ → Option ℕ

-- the call of the tenant at this place, made with the right to change arrays
abbrev pub event_at : Call → Option ℕ → Result Event Unplayed
event_at call None = Err unplayed.Tenant
event_at call (Some place) = Ok (record { speaker = record { tenant = place; right = Change }; call = call })

abbrev pub event_for : Places → Option Told → Result Event Unplayed
event_for places None = Err unplayed.Record
event_for places (Some change) = event_at change.call (places change.name)

-- the call that a record asks to be made; the record tells no change, or there is no such tenant
abbrev pub event_told : Places → List ℕ → Result Event Unplayed
event_told places bytes = event_for places (told bytes)

-- What the reply to this call says of the record. The right to change arrays is never refused, so
-- `ReadOnly` and `Frozen` do not come.
abbrev pub outcome : Reply → Result (Unit {0}) Unplayed
outcome Full = Err unplayed.Full
outcome ReadOnly = Err unplayed.Full
outcome Frozen = Err unplayed.Full
outcome Memory = Err unplayed.Memory
outcome _ = Ok tt

-- ---- runs and their records

-- the same call, made with the right to change arrays
abbrev pub again : Event → Event
again event = record { speaker = record { tenant = event.speaker.tenant; right = Change }; call = event.call }

-- These are the records of the calls, in order: each asks for its call again. A call that may have changed
-- arrays has one. One that left all as it was may have one too.
abbrev pub AreRecords : Places → List (Event × Reply) → List (List ℕ) → Type 0
AreRecords places [] records = records ≡ []
AreRecords places (p ∷ ps) records =
    ((bytes : List ℕ) × (more : List (List ℕ)) × (records ≡ bytes ∷ more) × (event_told places bytes ≡ Ok (again p.0))
    × (changes p.0.call ≡ true) × (is_refused p.1 ≡ false) × AreRecords places ps more)
    ⊎ ((counts p.0 p.1 ≡ false) × AreRecords places ps records)

-- the tenant at this place has this name and no other
abbrev pub IsNamed : Places → ℕ → List ℕ → Type 0
IsNamed places t name = (places name ≡ Some t) × ((other : List ℕ) → places other ≡ Some t → other ≡ name)

-- the arrays of a tenant after a run are those that the records of its name make of the arrays before
abbrev pub RecordsTellAll : Type 0
RecordsTellAll = (before after : States) (answered : List (Event × Reply)) (places : Places) (records : List (List ℕ))
    → HaveAnswered before answered after → AreRecords places answered records
    → (t : ℕ) (name : List ℕ) → IsNamed places t name → after t ≡ after_calls (before t) (calls_named name records)
