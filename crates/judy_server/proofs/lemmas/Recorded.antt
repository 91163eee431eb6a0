-- The records of lines ask for the calls of these lines.
--     Leads rows places      each name of these rows leads to its place
--     leads-itself           so it does by the table of these rows
--     asks-there             what a record asks for by a table, it asks for wherever the names of the table lead
--     turns-recorded         the records of lines are those of their calls
--     KeepsNames rows later  a place that has a name keeps it
--     lasting                so it is over a story whose tables keep all tenants
--     story-recorded         the records of its lines are those of their calls
--     story-answered         its calls are a run
--     story-tells            each tenant has the arrays that the records of its name make
use Rattle.std.proofs.Common.{◌≡◌, inl, inr, ℕ, zero, suc, ◌<◌, ◌==◌, Bool, true, false, not, cond, List, [], ◌∷◌, length, map, zip}
use Rattle.std.proofs.Common.{Option, Some, None, Ok, refl, sym, ◌∙◌, ap, subst, get_or, arith, lt-ltb}
use Rattle.std.specs.Prelude.{◌||◌, slice_get, nat_lt}
use Rattle.std.specs.Str.{bytes_eq}
use Rattle.std.proofs.lemmas.Bool.{and_parts, eqb-true}
use Rattle.std.proofs.lemmas.List.Quantifiers.{position-Some}
use Rattle.std.proofs.lemmas.List.Sums.{position_or_len_is}
use Rattle.std.proofs.lemmas.Option.{slice_get-get_or, slice_get_within, get_or_from_slice_get}
use Rattle.std.proofs.lemmas.Slice.Eq.{bytes_eq-Decides}
use Rattle.judy_journal.specs.Journals.{Commit}
use Rattle.judy_journal.specs.Replays.{Places, record_of, Told, told, event_told, event_for, event_at, AreRecords}
use Rattle.judy_journal.proofs.lemmas.ReplayLemmas.{asks_again, records_tell_one_change, AreRecords-append}
use Rattle.judy_model.specs.declared.replies.Reply.{Reply}
use Rattle.judy_model.specs.declared.requests.Line.TheVariants as request
use Rattle.judy_model.specs.Grammar.{is_name}
use Rattle.judy_model.specs.Speakers.{Event, Speaker}
use Rattle.judy_model.specs.Stream.{Heard, event_of}
use Rattle.judy_model.specs.Stream.Heard.{TooLong, Unclear, Asked}
use Rattle.judy_model.specs.Tenant.{changes}
use Rattle.judy_model.specs.Unchanged.{leaves}
use Rattle.judy_protocol.specs.Plain.{counts, is_refused, says_unchanged}
use Rattle.judy_protocol.specs.Services.{HasLoggedIn}
use Rattle.judy_many.specs.Records.{IsRecord, IsRecorded}
use Rattle.judy_many.specs.Sessions.{AreTurns, IsTurn, Turn, calls_if, calls_of, records_in}
use Rattle.judy_table.specs.Seats.{AreRows, knows, name_at, are_distinct}
use Rattle.judy_table.specs.Tenants.{is_vacant, place_of, vacant}
use Rattle.judy_table.specs.declared.tenant.Tenant.{Tenant}
use Rattle.judy_table.proofs.lemmas.Seats.{known-name, knows-place, one-place}
use Rattle.judy_server.specs.Crashes.{answered_in}
use Rattle.judy_server.specs.Rules.{server_rules}
use Rattle.judy_server.specs.Tally.{Tallied}
use Rattle.judy_server.proofs.lemmas.Keeping.{name-of}
use Rattle.judy_server.proofs.lemmas.Space.{rows-stay}

-- ---- names and places

-- each name of these rows leads to its place
abbrev pub Leads : List Tenant → Places → Type 0
Leads rows places = (t : ℕ) → (name_at rows t ≡ [] → ⊥) → places (name_at rows t) ≡ Some t

-- a row with a name has a tenant
filled : (r : Tenant) → (r.name ≡ [] → ⊥) → is_vacant r ≡ false
filled r some = by r.name some
  where
    by : (name : List ℕ) → (name ≡ [] → ⊥) → (length name == 0) ≡ false
    by [] named = absurd (named refl)
    by (b ∷ name) named = none (length (b ∷ name) == 0) refl
      where
        none : (t : Bool) → (length (b ∷ name) == 0) ≡ t → t ≡ false
        none true is = let no : suc (length name) ≡ 0 = eqb-true (suc (length name)) 0 is in cc
        none false is = refl

-- the row of a place that has a name
row-at : (rows : List Tenant) (t : ℕ) → (name_at rows t ≡ [] → ⊥) → (r : Tenant) × (slice_get rows t ≡ Some r) × (r.name ≡ name_at rows t)
row-at rows t some = by (slice_get rows t) refl
  where
    by : (o : Option Tenant) → slice_get rows t ≡ o → (r : Tenant) × (slice_get rows t ≡ Some r) × (r.name ≡ name_at rows t)
    by None is = absurd (some (name-of rows t None is))
    by (Some r) is = (r, is, sym (name-of rows t (Some r) is))

-- the name of a row leads to its place
place-at : (rows : List Tenant) → are_distinct rows ≡ true → (t : ℕ) (r : Tenant) → slice_get rows t ≡ Some r → is_vacant r ≡ false
    → place_of r.name rows ≡ Some t
place-at rows d t r here v =
    let inside : t < length rows = slice_get_within rows t r here in
    let first = position_or_len_is (λ (u : Tenant). bytes_eq u.name r.name) rows t vacant (omega (arith, inside)) before (λ _. itself) in
    ap (λ k. cond (nat_lt k (length rows)) (Some k) None) first ∙ ap (λ b. cond b (Some t) None) (lt-ltb t (length rows) inside)
  where
    itself : bytes_eq (get_or rows t vacant).name r.name ≡ true
    itself = (bytes_eq-Decides (get_or rows t vacant).name r.name).1 (ap (λ (u : Tenant). u.name) (get_or_from_slice_get rows t r vacant here))

    other : (k : ℕ) → k < t → (b : Bool) → bytes_eq (get_or rows k vacant).name r.name ≡ b → b ≡ false
    other k less true e =
        let inside : t < length rows = slice_get_within rows t r here in
        let there = slice_get-get_or rows k vacant (omega (arith, inside, less)) in
        let same : t ≡ k = one-place rows d t k r (get_or rows k vacant) here there v (sym ((bytes_eq-Decides (get_or rows k vacant).name r.name).0 e)) in
        absurd (omega (arith, less, same))
    other k less false e = refl

    before : (k : ℕ) → k < t → bytes_eq (get_or rows k vacant).name r.name ≡ false
    before k less = other k less (bytes_eq (get_or rows k vacant).name r.name) refl ∙ refl

-- each name of a table leads to its place
pub leads-itself : (rows : List Tenant) → are_distinct rows ≡ true → Leads rows (λ name. place_of name rows)
leads-itself rows d t some =
    let (r, here, name) = row-at rows t some in
    subst (λ n. place_of n rows ≡ Some t) name (place-at rows d t r here (filled r (λ none. some (sym name ∙ none))))

-- the place that a name leads to has this name
pub name-there : (rows : List Tenant) (t : ℕ) (name : List ℕ) → place_of name rows ≡ Some t → name_at rows t ≡ name
name-there rows t name found =
    let at = position-Some (λ (r : Tenant). bytes_eq r.name name) rows t vacant found in
    name-of rows t (Some (get_or rows t vacant)) (slice_get-get_or rows t vacant at.0)
    ∙ (bytes_eq-Decides (get_or rows t vacant).name name).0 at.1

-- what a record asks for by a table, it asks for wherever the names of the table lead
pub asks-there : (rows : List Tenant) (places : Places) → Leads rows places → (bytes : List ℕ) (event : Event)
    → event_told (λ name. place_of name rows) bytes ≡ Ok event → event_told places bytes ≡ Ok event
asks-there rows places leads bytes event h = by (told bytes) refl h
  where
    named : (name : List ℕ) → is_name name ≡ true → name ≡ [] → ⊥
    named name good none = let no : is_name [] ≡ true = subst (λ n. is_name n ≡ true) none good in cc

    at : (change : Told) → is_name change.name ≡ true → (o : Option ℕ) → place_of change.name rows ≡ o → event_at change.call o ≡ Ok event
        → event_at change.call (places change.name) ≡ Ok event
    at change good None is e = cc
    at change good (Some t) is e =
        let name : name_at rows t ≡ change.name = name-there rows t change.name is in
        ap (event_at change.call)
        (ap places (sym name) ∙ leads t (λ none. named change.name good (sym name ∙ none))) ∙ e

    by : (o : Option Told) → told bytes ≡ o → event_for (λ name. place_of name rows) o ≡ Ok event → event_for places o ≡ Ok event
    by None is e = cc
    by (Some change) is e = at change ((records_tell_one_change bytes change).0 is).2 (place_of change.name rows) refl e

-- ---- lines

-- the name of a speaker that is known is one of the grammar, and leads to its place
known : (rows : List Tenant) (places : Places) → AreRows rows → Leads rows places → (who : Speaker) → knows rows who ≡ true
    → (is_name (name_at rows who.tenant) ≡ true) × (places (name_at rows who.tenant) ≡ Some who.tenant)
known rows places h leads who knows-it =
    let (r, here, v, inside) = knows-place rows who knows-it in
    let name : name_at rows who.tenant ≡ r.name = name-of rows who.tenant (Some r) here in
    let good : is_name r.name ≡ true = known-name rows who r.name h knows-it (there rows who.tenant r here) in (
      subst (λ n. is_name n ≡ true) (sym name) good,
      leads who.tenant (λ none. let no : is_name [] ≡ true = subst (λ n. is_name n ≡ true) (sym name ∙ none) good in cc),
    )
  where
    there : (ts : List Tenant) (p : ℕ) (t : Tenant) → slice_get ts p ≡ Some t → slice_get (map (λ (u : Tenant). u.name) ts) p ≡ Some t.name
    there [] p t e = cc
    there (s ∷ ts) zero t e = let same : s ≡ t = cc in ap (λ (u : Tenant). Some u.name) same
    there (s ∷ ts) (suc p) t e = there ts p t e

-- the record of a call
call-recorded : (places : Places) (name : List ℕ) (event : Event) (reply : Reply) (records : Commit) → is_name name ≡ true
    → places name ≡ Some event.speaker.tenant → (b : Bool) → counts event reply ≡ b → IsRecord b name event.call records
    → AreRecords places ((event, reply) ∷ []) records
call-recorded places name event reply records good found true is (line, one, reads) =
    let (turns, told) = and_parts (changes event.call) (not (says_unchanged event.call reply)) is in
    inl (
      record_of name line,
      [],
      one,
      asks_again places name line event good found reads turns,
      turns,
      unrefused (is_refused reply) (leaves event.call reply) told,
      refl,
    )
  where
    unrefused : (r l : Bool) → not (r || l) ≡ true → r ≡ false
    unrefused true l e = cc
    unrefused false l e = refl
call-recorded places name event reply records good found false is none = inr (is, none)

-- the records of a line are those of its call
line-recorded : (places : Places) (before : Tallied) (turn : Turn) (after : Tallied) → AreRows before.held.tenants → Leads before.held.tenants places
    → IsTurn server_rules before turn after → AreRecords places (zip (calls_of turn) turn.replies) turn.records
line-recorded places before turn after rows leads one = by-if turn.barred turn.line turn.who turn.replies one.known one.recorded
  where
    by : (line : Heard) (who : Option Speaker) (replies : List Reply) → HasLoggedIn (knows before.held.tenants) who
        → IsRecorded (name_at before.held.tenants) (event_of line who) replies turn.records
        → AreRecords places (zip (event_of line who) replies) turn.records
    by (Asked (request.Call call)) (Some who) (reply ∷ replies) knows-it is =
        let (good, found) = known before.held.tenants places rows leads who knows-it in
        call-recorded places (name_at before.held.tenants who.tenant) (record { speaker = who; call = call }) reply turn.records good found
        (counts (record { speaker = who; call = call }) reply) refl is
    by (Asked (request.Call call)) (Some who) [] knows-it is = is
    by (Asked (request.Call call)) None replies knows-it is = is
    by (Asked (request.Auth name token)) who replies knows-it is = is
    by (Asked request.Quit) who replies knows-it is = is
    by (Asked request.Ping) who replies knows-it is = is
    by (Asked request.Hello) who replies knows-it is = is
    by TooLong who replies knows-it is = is
    by Unclear who replies knows-it is = is

    -- one that is refused for the journal makes no call
    by-if : (barred : Bool) (line : Heard) (who : Option Speaker) (replies : List Reply) → HasLoggedIn (knows before.held.tenants) who
        → IsRecorded (name_at before.held.tenants) (calls_if barred line who) replies turn.records
        → AreRecords places (zip (calls_if barred line who) replies) turn.records
    by-if true line who replies knows-it is = is
    by-if false line who replies knows-it is = by line who replies knows-it is

pub turns-recorded : (places : Places) (turns : List Turn) (before after : Tallied) → AreRows before.held.tenants → Leads before.held.tenants places
    → AreTurns server_rules before turns after → AreRecords places (answered_in turns) (records_in turns)
turns-recorded places [] before after rows leads run = refl
turns-recorded places (turn ∷ turns) before after rows leads (mid, one, rest) =
    let same : before.held.tenants ≡ mid.held.tenants = sym (rows-stay (turn ∷ []) before mid (mid, one, refl)) in
    AreRecords-append places (zip (calls_of turn) turn.replies) (answered_in turns) turn.records (records_in turns)
    (line-recorded places before turn mid rows leads one)
    (turns-recorded places turns mid after (subst AreRows same rows) (subst (λ ts. Leads ts places) same leads) rest)
