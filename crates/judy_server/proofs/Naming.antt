-- The arrays of a tenant by its name, and what records make of them.
--     Step                     what a record tells of a tenant: a call, or that it left
--     after_steps s steps      the arrays after these steps
--     steps_named name records what records tell of the tenant with this name, in order
--     calls-are-steps          of records of calls these are the calls
--     none-told                records of calls tell nothing of a name that has no place
--     turns-named              lines make of the arrays what their records tell
use Rattle.std.proofs.Common.{◌≡◌, inl, inr, ℕ, Bool, true, false, cond, List, [], ◌∷◌, ◌++◌}
use Rattle.std.proofs.Common.{Option, Some, None, Ok, refl, sym, ◌∙◌, ap, append_assoc}
use Rattle.std.specs.List.{cons_option}
use Rattle.std.specs.Str.{bytes_eq}
use Rattle.std.proofs.lemmas.Slice.Eq.{bytes_eq-Decides}
use Rattle.judy_journal.specs.Leaving.{gone_in}
use Rattle.judy_journal.specs.Replays.{AreRecords, Places, RecordsTellAll, Told, after_call, after_calls, call_told, calls_named, event_at, event_for, event_told, told}
use Rattle.judy_journal.specs.Replays.{again}
use Rattle.judy_model.specs.declared.calls.Call.{Call}
use Rattle.judy_model.specs.declared.replies.Reply.{Reply}
use Rattle.judy_model.specs.Speakers.{Event}
use Rattle.judy_model.specs.Tenant.{State, no_arrays}
use Rattle.judy_many.specs.Sessions.{AreTurns, Turn, records_in}
use Rattle.judy_table.specs.Seats.{AreRows}
use Rattle.judy_table.specs.Tenants.{place_of}
use Rattle.judy_tenants.specs.Held.{IsSoundService, states_of}
use Rattle.judy_server.specs.Crashes.{answered_in}
use Rattle.judy_server.specs.Rules.{server_rules}
use Rattle.judy_server.specs.Named.{arrays_at, arrays_named}
use Rattle.judy_server.specs.Tally.{Tallied, is_among}
use Rattle.judy_server.proofs.lemmas.Answering.{turns-answered}
use Rattle.judy_server.proofs.lemmas.Crashes.{named-by-place}
use Rattle.judy_server.proofs.lemmas.Recorded.{leads-itself, turns-recorded}
use Rattle.judy_server.proofs.lemmas.Space.{rows-stay}

-- ---- steps

-- what a record tells of a tenant: a call, or that it left
pub data Step : Type 0 where
  Called : Call → Step
  Left : Step

abbrev pub after_step : State → Step → State
after_step s (Step.Called call) = after_call s call
after_step s Step.Left = no_arrays

abbrev pub after_steps : State → List Step → State
after_steps s [] = s
after_steps s (x ∷ steps) = after_steps (after_step s x) steps

pub after_steps-append : (s : State) (steps more : List Step) → after_steps s (steps ++ more) ≡ after_steps (after_steps s steps) more
after_steps-append s [] more = refl
after_steps-append s (x ∷ steps) more = after_steps-append (after_step s x) steps more

-- what a record tells of a name: the change that it tells, or the names of those that left
abbrev pub steps_of : List ℕ → Option Told → Option (List (List ℕ)) → List Step
steps_of name (Some change) left = cond (bytes_eq change.name name) (Step.Called change.call ∷ []) []
steps_of name None None = []
steps_of name None (Some names) = cond (is_among names name) (Step.Left ∷ []) []

abbrev pub steps_named : List ℕ → List (List ℕ) → List Step
steps_named name [] = []
steps_named name (r ∷ records) = steps_of name (told r) (gone_in r) ++ steps_named name records

pub steps-append : (name : List ℕ) (records more : List (List ℕ)) → steps_named name (records ++ more) ≡ steps_named name records ++ steps_named name more
steps-append name [] more = refl
steps-append name (r ∷ records) more =
    ap (λ x. steps_of name (told r) (gone_in r) ++ x) (steps-append name records more)
    ∙ sym (append_assoc (steps_of name (told r) (gone_in r)) (steps_named name records) (steps_named name more))

-- ---- records of calls

-- a record that asks for a call tells a change, of a name that has a place
record HasTold (places : Places) (bytes : List ℕ) : Type 0 where
  change : Told
  is : told bytes ≡ Some change
  place : ℕ
  found : places change.name ≡ Some place

has-told : (places : Places) (bytes : List ℕ) (event : Event) → event_told places bytes ≡ Ok event → HasTold places bytes
has-told places bytes event h = by (told bytes) refl h
  where
    at : (change : Told) → told bytes ≡ Some change → (o : Option ℕ) → places change.name ≡ o → event_at change.call o ≡ Ok event → HasTold places bytes
    at change is None found e = cc
    at change is (Some place) found e = record { change = change; is = is; place = place; found = found }

    by : (o : Option Told) → told bytes ≡ o → event_for places o ≡ Ok event → HasTold places bytes
    by None is e = cc
    by (Some change) is e = at change is (places change.name) refl e

-- one record of a call, and more steps
one-call : (name : List ℕ) (change : Told) (s : State) (gone : Option (List (List ℕ))) (steps : List Step) (calls : List Call)
    → ((s : State) → after_steps s steps ≡ after_calls s calls)
    → after_steps s (steps_of name (Some change) gone ++ steps) ≡ after_calls s (cons_option (call_told name (Some change)) calls)
one-call name change s gone steps calls more = by (bytes_eq change.name name) refl
  where
    by : (b : Bool) → bytes_eq change.name name ≡ b
        → after_steps s (steps_of name (Some change) gone ++ steps) ≡ after_calls s (cons_option (call_told name (Some change)) calls)
    by true e =
        ap (λ b. after_steps s (cond b (Step.Called change.call ∷ []) [] ++ steps)) e
        ∙ more (after_call s change.call)
        ∙ sym (ap (λ b. after_calls s (cons_option (cond b (Some change.call) None) calls)) e)
    by false e =
        ap (λ b. after_steps s (cond b (Step.Called change.call ∷ []) [] ++ steps)) e
        ∙ more s
        ∙ sym (ap (λ b. after_calls s (cons_option (cond b (Some change.call) None) calls)) e)

-- of records of calls the steps are the calls
pub calls-are-steps : (places : Places) (ps : List (Event × Reply)) (records : List (List ℕ)) → AreRecords places ps records → (name : List ℕ) (s : State)
    → after_steps s (steps_named name records) ≡ after_calls s (calls_named name records)
calls-are-steps places [] records none name s =
    ap (λ rs. after_steps s (steps_named name rs)) none ∙ sym (ap (λ rs. after_calls s (calls_named name rs)) none)
calls-are-steps places (p ∷ ps) records (inl (bytes, more, is, event, turns, unrefused, rest)) name s =
    let h = has-told places bytes (again p.0) event in
    ap (λ rs. after_steps s (steps_named name rs)) is
    ∙ ap (λ o. after_steps s (steps_of name o (gone_in bytes) ++ steps_named name more)) h.is
    ∙ one-call name h.change s (gone_in bytes) (steps_named name more) (calls_named name more) (λ s. calls-are-steps places ps more rest name s)
    ∙ sym (ap (λ o. after_calls s (cons_option (call_told name o) (calls_named name more))) h.is)
    ∙ sym (ap (λ rs. after_calls s (calls_named name rs)) is)
calls-are-steps places (p ∷ ps) records (inr (none, rest)) name s = calls-are-steps places ps records rest name s

-- they tell nothing of a name that has no place
pub none-told : (places : Places) (ps : List (Event × Reply)) (records : List (List ℕ)) → AreRecords places ps records → (name : List ℕ)
    → places name ≡ None → steps_named name records ≡ []
none-told places [] records none name absent = ap (steps_named name) none
none-told places (p ∷ ps) records (inl (bytes, more, is, event, turns, unrefused, rest)) name absent =
    let h = has-told places bytes (again p.0) event in
    ap (steps_named name) is
    ∙ ap (λ o. steps_of name o (gone_in bytes) ++ steps_named name more) h.is
    ∙ ap (λ b. cond b (Step.Called h.change.call ∷ []) [] ++ steps_named name more) (other h (bytes_eq h.change.name name) refl)
    ∙ none-told places ps more rest name absent
  where
    other : (h : HasTold places bytes) (b : Bool) → bytes_eq h.change.name name ≡ b → bytes_eq h.change.name name ≡ false
    other h false e = e
    other h true e =
        let same : h.change.name ≡ name = (bytes_eq-Decides h.change.name name).0 e in
        let no : None ≡ Some h.place = sym absent ∙ ap places (sym same) ∙ h.found in cc
none-told places (p ∷ ps) records (inr (none, rest)) name absent = none-told places ps records rest name absent

-- ---- lines

-- lines make of the arrays of a name what their records tell
pub turns-named : RecordsTellAll → (turns : List Turn) (before after : Tallied) → IsSoundService before.held → AreRows before.held.tenants
    → AreTurns server_rules before turns after → (name : List ℕ)
    → arrays_named after name ≡ after_steps (arrays_named before name) (steps_named name (records_in turns))
turns-named all turns before after sound rows run name =
    ap (λ ts. arrays_at (states_of after.held) (place_of name ts)) (rows-stay turns before after run)
    ∙ by (place_of name before.held.tenants) refl
  where
    places : Places
    places n = place_of n before.held.tenants

    are : AreRecords places (answered_in turns) (records_in turns)
    are = turns-recorded places turns before after rows (leads-itself before.held.tenants rows.distinct) run

    by : (o : Option ℕ) → place_of name before.held.tenants ≡ o
        → arrays_at (states_of after.held) (place_of name before.held.tenants)
        ≡ after_steps (arrays_at (states_of before.held) (place_of name before.held.tenants)) (steps_named name (records_in turns))
    by None e =
        ap (arrays_at (states_of after.held)) e
        ∙ sym (ap (λ o. after_steps (arrays_at (states_of before.held) o) (steps_named name (records_in turns))) e
        ∙ ap (after_steps no_arrays) (none-told places (answered_in turns) (records_in turns) are name e))
    by (Some t) e =
        ap (arrays_at (states_of after.held)) e
        ∙ all (states_of before.held) (states_of after.held) (answered_in turns) places (records_in turns) (turns-answered turns before after sound run) are t name
        (named-by-place before.held.tenants t name e)
        ∙ sym (calls-are-steps places (answered_in turns) (records_in turns) are name (states_of before.held t))
        ∙ sym (ap (λ o. after_steps (arrays_at (states_of before.held) o) (steps_named name (records_in turns))) e)
