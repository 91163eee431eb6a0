-- What is recorded of a run tells the arrays after it.
use Rattle.std.proofs.Common.{◌≡◌, ◌≢◌, ◌⊎◌, inl, inr, ℕ, ◌+◌, Bool, true, false, not, cond, ◌&&◌, ◌||◌, List, [], ◌∷◌, ◌++◌}
use Rattle.std.proofs.Common.{refl, sym, ◌∙◌, ap, subst, arith, map, Option, Some, None, Result, Ok, Err}
use Rattle.std.specs.Prelude.{option_map, length, ◌==◌, MatchBool, nat_lt, nat_le}
use Rattle.std.specs.List.{filter_map, cons_option, list_all}
use Rattle.std.specs.Str.{bytes_eq}
use Rattle.std.proofs.lemmas.Bool.{eqb-true, eqb-false, and_from}
use Rattle.std.proofs.lemmas.Bool.Decides.{nat_tests, same_from_decides, Decides-eqb}
use Rattle.std.proofs.lemmas.List.{map-append}
use Rattle.std.proofs.lemmas.List.Elements.{filter_map-append}
use Rattle.std.proofs.lemmas.Slice.Eq.{bytes_eq-Decides}
use Rattle.judy_model.specs.declared.calls.Call.{Call}
use Rattle.judy_model.specs.declared.calls.Call.TheVariants.{One, Long, Str, Bytes, Intersect, Names, Used}
use Rattle.judy_model.specs.declared.calls.Given.{Given}
use Rattle.judy_model.specs.declared.quotas.Quota.{Quota}
use Rattle.judy_model.specs.declared.replies.Reply.{Reply}
use Rattle.judy_model.specs.declared.replies.Reply.TheVariants as reply
use Rattle.judy_model.specs.Contents.{Order, Entries, word_order, string_order, value_of}
use Rattle.judy_model.specs.Tenant.Effect.{Insert, Keep, Exchange, Remove, Take, RemoveIf, Pop, Cut, Fill, Free, Ask}
use Rattle.judy_model.specs.Tenant.{Effect, Reports, fill_at, fill_over, keep_over, effect_step, one_effect, long_effect, string_effect, bytes_effect}
use Rattle.judy_model.specs.Tenant.{State, Attempt, content_of, with_content, insert_over, insert, used, pieces, new_pieces, one_step, long_step}
use Rattle.judy_model.specs.Tenant.{string_step, bytes_step, changes, is_read_only, refusal_of, has_room, allowed_step, attempt_step}
use Rattle.judy_model.specs.Solo.{is_memory, IsAnswered, MayLackMemory}
use Rattle.judy_model.specs.Service.{States}
use Rattle.judy_model.specs.Speakers.{Event, attempt_of}
use Rattle.judy_model.specs.WellFormed.{IsWellFormed}
use Rattle.judy_journal.specs.Replays.{ample, after_call, after_calls, HasAnswered, call_recorded, recorded_calls}
use Rattle.judy_model.specs.Unchanged.{leaves, UnchangedAreTold}
use Rattle.judy_protocol.specs.Plain.{is_refused, says_unchanged, counts}
use Rattle.judy_journal.specs.Replays.{Told, record_of, parts_of, told_in, told, change_in, change_of, call_told, calls_named}
use Rattle.judy_model.specs.declared.quotas.Right.{Right}
use Rattle.judy_model.specs.declared.quotas.Right.TheVariants.{Change, Look, Frozen}
use Rattle.judy_journal.specs.Replays.{HaveAnswered, Places, outcome, event_at, event_for, event_told, again, AreRecords, IsNamed}
use Rattle.judy_journal.specs.declared.replays.Unplayed.{Unplayed}
use Rattle.judy_journal.specs.Replays.{OthersKeepAll, RecordedCallsTellAll, ReplaysAreExact, RecordsTellAll, RecordsTellOneChange}
use Rattle.judy_model.specs.Grammar.{is_space, is_name, is_name_byte}
use Rattle.judy_model.specs.Reading.{request_of}
use Rattle.judy_model.specs.declared.requests.Line.{Line}
use Rattle.judy_model.specs.declared.requests.Line.TheVariants as request
use Rattle.judy_model.specs.Solo.{StepHasMemory}
use Rattle.judy_model.specs.WellFormed.{FullIsForNew, LooksKeepAll, QueriesKeepAll}
use Rattle.judy_model.proofs.lemmas.TestLemmas.{and_left, and_right, not_both}

-- ---- a call that is not refused does as it would with room

insert_same : {K : Type 0} (order : Order K) (room : Bool) (l : Entries K) (k : K) (given : Given) (reports : Reports)
    → is_refused (insert order room l k given reports).0 ≡ false → (insert order room l k given reports).1 ≡ (insert order true l k given reports).1
insert_same order room l k given reports = by (value_of order l k) room
  where
    by : (had : Option ℕ) (r : Bool) → is_refused (insert_over order r l k given reports had).0 ≡ false
        → (insert_over order r l k given reports had).1 ≡ (insert_over order true l k given reports had).1
    by (Some v) r h = refl
    by None true h = refl
    by None false h = cc

keep_same : {K : Type 0} (order : Order K) (room : Bool) (l : Entries K) (k : K) (v : ℕ) (had : Option ℕ)
    → is_refused (keep_over order room l k v had).0 ≡ false → (keep_over order room l k v had).1 ≡ (keep_over order true l k v had).1
keep_same order room l k v (Some w) h = refl
keep_same order true l k v None h = refl
keep_same order false l k v None h = cc

fill_same : {K : Type 0} (order : Order K) (room : Bool) (l : Entries K) (index : K → ℕ) (v : ℕ) (found : Option K)
    → is_refused (fill_over order room l index v found).0 ≡ false → (fill_over order room l index v found).1 ≡ (fill_over order true l index v found).1
fill_same order room l index v None h = refl
fill_same order room l index v (Some k) h = by (value_of order l k) room h
  where
    by : (had : Option ℕ) (r : Bool) → is_refused (fill_at order r l (index k) k v had).0 ≡ false
        → (fill_at order r l (index k) k v had).1 ≡ (fill_at order true l (index k) k v had).1
    by (Some w) r h = refl
    by None true h = refl
    by None false h = cc

effect_same : {K : Type 0} (order : Order K) (room : Bool) (l : Entries K) (effect : Effect K) → is_refused (effect_step order room l effect).0 ≡ false
    → (effect_step order room l effect).1 ≡ (effect_step order true l effect).1
effect_same order room l (Insert k given reports) h = insert_same order room l k given reports h
effect_same order room l (Keep k v) h = keep_same order room l k v (value_of order l k) h
effect_same order room l (Exchange k old new) h = refl
effect_same order room l (Remove k) h = refl
effect_same order room l (Take k) h = refl
effect_same order room l (RemoveIf k v) h = refl
effect_same order room l (Pop find show lack) h = refl
effect_same order room l (Cut find n) h = refl
effect_same order room l (Fill x find index v) h = fill_same order room l index v (find l) h
effect_same order room l Free h = refl
effect_same order room l (Ask answer) h = refl

-- the ample quota has room
ample_room : (s : State) (call : Call) → has_room (ample s call) s call ≡ true
ample_room s call = and_from (nat_lt (used s) (used s + 1)) _ (less (used s)) (same (pieces s + new_pieces call))
  where
    less : (n : ℕ) → nat_lt n (n + 1) ≡ true
    less n = grind (arith, nat_tests)

    same : (n : ℕ) → nat_le n n ≡ true
    same n = grind (arith, nat_tests)

-- a call that its right allows, and that is not refused
allowed_same : (quota : Quota) (s : State) (call : Call) → is_refused (allowed_step quota s call).0 ≡ false
    → (allowed_step quota s call).1 ≡ after_call s call
allowed_same quota s (One name c) h =
    ap (λ l. record s { one = with_content s.one name l })
    (effect_same word_order (has_room quota s (One name c)) (content_of s.one name) (one_effect c) h
    ∙ ap (λ room. (one_step room (content_of s.one name) c).1) (sym (ample_room s (One name c))))
allowed_same quota s (Long name c) h =
    ap (λ l. record s { long = with_content s.long name l })
    (effect_same word_order (has_room quota s (Long name c)) (content_of s.long name) (long_effect c) h
    ∙ ap (λ room. (long_step room (content_of s.long name) c).1) (sym (ample_room s (Long name c))))
allowed_same quota s (Str name c) h =
    ap (λ l. record s { string = with_content s.string name l })
    (effect_same string_order (has_room quota s (Str name c)) (content_of s.string name) (string_effect c) h
    ∙ ap (λ room. (string_step room (content_of s.string name) c).1) (sym (ample_room s (Str name c))))
allowed_same quota s (Bytes name c) h =
    ap (λ l. record s { bytes = with_content s.bytes name l })
    (effect_same string_order (has_room quota s (Bytes name c)) (content_of s.bytes name) (bytes_effect c) h
    ∙ ap (λ room. (bytes_step room (content_of s.bytes name) c).1) (sym (ample_room s (Bytes name c))))
allowed_same quota s (Intersect name other i n) h = refl
allowed_same quota s (Names from n) h = refl
allowed_same quota s Used h = refl

-- under any right
attempt_same : (quota : Quota) (s : State) (a : Attempt) → is_refused (attempt_step quota s a).0 ≡ false
    → (attempt_step quota s a).1 ≡ after_call s a.call
attempt_same quota s a = by (is_read_only a.right a.call) a.right
  where
    by : (b : Bool) (right : Right) → is_refused (cond {A = Reply × State} b (refusal_of right, s) (allowed_step quota s a.call)).0 ≡ false
        → (cond {A = Reply × State} b (refusal_of right, s) (allowed_step quota s a.call)).1 ≡ after_call s a.call
    by true Change h = cc
    by true Look h = cc
    by true Frozen h = cc
    by false right h = allowed_same quota s a.call h

-- a refusal for memory is a refusal
memory_refused : (r : Reply) → is_refused r ≡ false → is_memory r ≡ false
memory_refused reply.Memory h = cc
memory_refused _ h = refl

-- an answer that is no refusal leaves the arrays that the call makes
pub answered_same : (quota : Quota) (s : State) (a : Attempt) (given : Reply) (new : State)
    → IsAnswered quota s a given new → is_refused given ≡ false → new ≡ after_call s a.call
answered_same quota s a given new answered h = by (is_memory given) (memory_refused given h) answered
  where
    by : (b : Bool) → b ≡ false → MatchBool b (MayLackMemory quota s a × (new ≡ s)) (attempt_step quota s a ≡ (given, new))
        → new ≡ after_call s a.call
    by true memory e = cc
    by false memory e = sym (ap (λ p. p.1) e) ∙ attempt_same quota s a (ap (λ p. is_refused p.0) e ∙ h)

-- ---- a call that is refused or changes nothing leaves all as it was

-- the four refusals
refusal_is : (r : Reply) → is_refused r ≡ true → (r ≡ reply.Full) ⊎ (r ≡ reply.ReadOnly) ⊎ (r ≡ reply.Frozen) ⊎ (is_memory r ≡ true)
refusal_is reply.Full h = inl refl
refusal_is reply.ReadOnly h = inr (inl refl)
refusal_is reply.Frozen h = inr (inr (inl refl))
refusal_is reply.Memory h = inr (inr (inr refl))
refusal_is _ h = cc

-- calls a ++ b are a, then b
pub after_calls-append : (s : State) (calls more : List Call) → after_calls s (calls ++ more) ≡ after_calls (after_calls s calls) more
after_calls-append s [] more = refl
after_calls-append s (call ∷ calls) more = after_calls-append (after_call s call) calls more

-- two consecutive runs are one; between them the arrays stay
pub HaveAnswered-append : (before mid now after : States) (ps qs : List (Event × Reply)) → HaveAnswered before ps mid → ((t : ℕ) → now t ≡ mid t)
    → HaveAnswered now qs after → HaveAnswered before (ps ++ qs) after
HaveAnswered-append before mid now after [] [] run same more = λ t. more t ∙ same t ∙ run t
HaveAnswered-append before mid now after [] (q ∷ qs) run same (next, first, rest) = (
  next,
  record {
    quotas = first.quotas;
    now = first.now;
    same = λ t. first.same t ∙ same t ∙ run t;
    form = λ t. subst IsWellFormed (same t ∙ run t) (first.form t);
    served = first.served;
  },
  rest,
)
HaveAnswered-append before mid now after (p ∷ ps) qs (next, first, rest) same more =
    (next, first, HaveAnswered-append next mid now after ps qs rest same more)

-- the laws of judy_model: a call that is refused, or that only looks, changes nothing
module _ (full_is_for_new : FullIsForNew) (looks_keep_all : LooksKeepAll) (queries_keep_all : QueriesKeepAll) (step_has_memory : StepHasMemory)
    (unchanged_are_told : UnchangedAreTold) where
  -- a step that is refused changes nothing
  refused_step : (quota : Quota) (s : State) (a : Attempt) → IsWellFormed s → is_refused (attempt_step quota s a).0 ≡ true
      → (attempt_step quota s a).1 ≡ s
  refused_step quota s a form h = by (refusal_is (attempt_step quota s a).0 h)
    where
      unread : (b : Bool) → b ≡ true → (cond {A = Reply × State} b (refusal_of a.right, s) (allowed_step quota s a.call)).1 ≡ s
      unread true is = refl
      unread false is = cc

      forbidden : (right : Right) → is_read_only right a.call ≡ changes a.call → (a.right ≡ right) × (changes a.call ≡ true)
          → (attempt_step quota s a).1 ≡ s
      forbidden right same (is, turns) = unread (is_read_only a.right a.call) (ap (λ r. is_read_only r a.call) is ∙ same ∙ turns)

      by : ((attempt_step quota s a).0 ≡ reply.Full) ⊎ ((attempt_step quota s a).0 ≡ reply.ReadOnly) ⊎ ((attempt_step quota s a).0 ≡ reply.Frozen)
          ⊎ (is_memory (attempt_step quota s a).0 ≡ true)
          → (attempt_step quota s a).1 ≡ s
      by (inl full) = (full_is_for_new a.right quota s a.call).1 form full
      by (inr (inl look)) = forbidden Look refl ((looks_keep_all a.right quota s a.call).0.0 look)
      by (inr (inr (inl frozen))) = forbidden Frozen refl ((looks_keep_all a.right quota s a.call).1.0 frozen)
      by (inr (inr (inr memory))) = absurd (not_both (is_memory (attempt_step quota s a).0) memory (step_has_memory a.right quota s a.call))

  -- nor does one that is not recorded
  uncounted_step : (quota : Quota) (s : State) (a : Attempt) → IsWellFormed s
      → (changes a.call && not (says_unchanged a.call (attempt_step quota s a).0)) ≡ false → (attempt_step quota s a).1 ≡ s
  uncounted_step quota s a form h = by (changes a.call) (is_refused (attempt_step quota s a).0) (leaves a.call (attempt_step quota s a).0) refl refl refl h
    where
      by : (b r l : Bool) → changes a.call ≡ b → is_refused (attempt_step quota s a).0 ≡ r → leaves a.call (attempt_step quota s a).0 ≡ l
          → (b && not (r || l)) ≡ false → (attempt_step quota s a).1 ≡ s
      by false r l query is left e = queries_keep_all a.right quota s a.call form query
      by true true l query is left e = refused_step quota s a form is
      by true false true query is left e = unchanged_are_told a.right quota s a.call form left
      by true false false query is left e = cc

  -- an answer to a call that is not recorded leaves the arrays
  uncounted_same : (quota : Quota) (s : State) (event : Event) (given : Reply) (new : State)
      → IsAnswered quota s (attempt_of event) given new → IsWellFormed s → counts event given ≡ false → new ≡ s
  uncounted_same quota s event given new answered form h = by (is_memory given) answered
    where
      by : (b : Bool)
          → MatchBool b (MayLackMemory quota s (attempt_of event) × (new ≡ s)) (attempt_step quota s (attempt_of event) ≡ (given, new))
          → new ≡ s
      by true e = e.1
      by false e = sym (ap (λ p. p.1) e)
          ∙ uncounted_step quota s (attempt_of event) form (ap (λ p. changes event.call && not (says_unchanged event.call p.0)) e ∙ h)

  -- ---- one call among many tenants

  -- whose call it is
  whose : (a b : ℕ) → ((a == b) ≡ true → a ≡ b) × ((a == b) ≡ false → b ≢ a)
  whose a b = (eqb-true a b, λ e same. eqb-false a b e (sym same))

  -- the call's own tenant
  own_call : (before after : States) (event : Event) (given : Reply) → HasAnswered before event given after
      → let t = event.speaker.tenant in (quotas : Quota) × IsAnswered quotas (before t) (attempt_of event) given (after t)
  own_call before after event given h =
      let t = event.speaker.tenant in
      (h.quotas t, subst (λ s. IsAnswered (h.quotas t) s (attempt_of event) given (after t)) (h.same t) h.served.answered)

  pub others_keep_all : OthersKeepAll
  others_keep_all before after event given h uncounted t = by (event.speaker.tenant == t) (whose event.speaker.tenant t)
    where
      mine : after event.speaker.tenant ≡ before event.speaker.tenant
      mine =
          let (quota, answered) = own_call before after event given h in
          uncounted_same quota (before event.speaker.tenant) event given (after event.speaker.tenant) answered (h.form event.speaker.tenant) uncounted

      by : (b : Bool) → (b ≡ true → event.speaker.tenant ≡ t) × (b ≡ false → t ≢ event.speaker.tenant) → after t ≡ before t
      by true w = subst (λ u. after u ≡ before u) (w.0 refl) mine
      by false w = h.served.others t (w.1 refl) ∙ h.same t

  -- the arrays after one call that is not refused
  one_made : (before after : States) (event : Event) (given : Reply) → HasAnswered before event given after → is_refused given ≡ false
      → (t : ℕ) → after t ≡ after_calls (before t) (cons_option (cond (event.speaker.tenant == t) (Some event.call) None) [])
  one_made before after event given h unrefused t = by (event.speaker.tenant == t) (whose event.speaker.tenant t)
    where
      mine : after event.speaker.tenant ≡ after_call (before event.speaker.tenant) event.call
      mine =
          let (quota, answered) = own_call before after event given h in
          answered_same quota (before event.speaker.tenant) (attempt_of event) given (after event.speaker.tenant) answered unrefused

      by : (b : Bool) → (b ≡ true → event.speaker.tenant ≡ t) × (b ≡ false → t ≢ event.speaker.tenant)
          → after t ≡ after_calls (before t) (cons_option (cond b (Some event.call) None) [])
      by true w = subst (λ u. after u ≡ after_call (before u) event.call) (w.0 refl) mine
      by false w = h.served.others t (w.1 refl) ∙ h.same t

  -- the arrays after one call, if it is recorded exactly where it may have changed them
  one_told : (before after : States) (event : Event) (given : Reply) → HasAnswered before event given after
      → (t : ℕ) → after t ≡ after_calls (before t) (recorded_calls t ((event, given) ∷ []))
  one_told before after event given h t = by (counts event given) refl
    where
      unrefused_by : (b r l : Bool) → (b && not (r || l)) ≡ true → r ≡ false
      unrefused_by true true l e = cc
      unrefused_by true false l e = refl
      unrefused_by false r l e = cc

      nothing : (b : Bool) → before t ≡ after_calls (before t) (cons_option (cond (b && false) (Some event.call) None) [])
      nothing true = refl
      nothing false = refl

      same : (b : Bool) → after_calls (before t) (cons_option (cond b (Some event.call) None) [])
          ≡ after_calls (before t) (cons_option (cond (b && true) (Some event.call) None) [])
      same true = refl
      same false = refl

      by : (c : Bool) → counts event given ≡ c
          → after t ≡ after_calls (before t) (cons_option (cond ((event.speaker.tenant == t) && c) (Some event.call) None) [])
      by true is =
          one_made before after event given h (unrefused_by (changes event.call) (is_refused given) (leaves event.call given) is) t
          ∙ same (event.speaker.tenant == t)
      by false is = others_keep_all before after event given h is t ∙ nothing (event.speaker.tenant == t)

  -- ---- runs

  -- one more call in front
  after_more : (s : State) (call : Option Call) (calls : List Call)
      → after_calls (after_calls s (cons_option call [])) calls ≡ after_calls s (cons_option call calls)
  after_more s None calls = refl
  after_more s (Some call) calls = refl

  pub recorded_calls_tell_all : RecordedCallsTellAll
  recorded_calls_tell_all before after [] run t = run t
  recorded_calls_tell_all before after (p ∷ ps) (mid, first, rest) t =
      recorded_calls_tell_all mid after ps rest t
      ∙ ap (λ s. after_calls s (recorded_calls t ps)) (one_told before mid p.0 p.1 first t)
      ∙ after_more (before t) (call_recorded t p) (recorded_calls t ps)

  pub replays_are_exact : ReplaysAreExact
  replays_are_exact before before' after after' answered answered' here there t u same calls =
      recorded_calls_tell_all before after answered here t
      ∙ ap (λ s. after_calls s (recorded_calls t answered)) same
      ∙ ap (after_calls (before' u)) calls
      ∙ sym (recorded_calls_tell_all before' after' answered' there u)

-- ---- records

-- the name tells the tenant
name_tells : (places : Places) (t u : ℕ) (name other : List ℕ) → IsNamed places t name → places other ≡ Some u → bytes_eq other name ≡ (u == t)
name_tells places t u name other (found, only) is =
    same_from_decides {P = u ≡ t} (bytes_eq other name) (u == t) (forth, back) (Decides-eqb u t)
  where
    forth : bytes_eq other name ≡ true → u ≡ t
    forth e = let same : other ≡ name = (bytes_eq-Decides other name).0 e in let there : places other ≡ Some t = ap places same ∙ found in cc

    back : u ≡ t → bytes_eq other name ≡ true
    back e = (bytes_eq-Decides other name).1 (only other (is ∙ ap Some e))

-- a name without a place is not that of a tenant
name_apart : (places : Places) (t : ℕ) (name other : List ℕ) → IsNamed places t name → places other ≡ None → bytes_eq other name ≡ false
name_apart places t name other (found, only) is = by (bytes_eq other name) (λ e. (bytes_eq-Decides other name).0 e)
  where
    by : (b : Bool) → (b ≡ true → other ≡ name) → b ≡ false
    by true same = let there : places other ≡ Some t = ap places (same refl) ∙ found in cc
    by false same = refl

-- the call, if it is asked for at this place
abbrev call_asked : ℕ → Result Event Unplayed → Option Call
call_asked t (Ok event) = cond (event.speaker.tenant == t) (Some event.call) None
call_asked t (Err why) = None

-- what a record tells of a name is what it asks for at the place of the name
one_asked : (places : Places) (t : ℕ) (name : List ℕ) → IsNamed places t name → (change : Option Told)
    → call_told name change ≡ call_asked t (event_for places change)
one_asked places t name named None = refl
one_asked places t name named (Some change) = by (places change.name) refl
  where
    by : (o : Option ℕ) → places change.name ≡ o → cond (bytes_eq change.name name) (Some change.call) None ≡ call_asked t (event_at change.call o)
    by None is = ap (λ b. cond b (Some change.call) None) (name_apart places t name change.name named is)
    by (Some u) is = ap (λ b. cond b (Some change.call) None) (name_tells places t u name change.name named is)

module _ (full_is_for_new : FullIsForNew) (looks_keep_all : LooksKeepAll) (queries_keep_all : QueriesKeepAll) (step_has_memory : StepHasMemory)
    (unchanged_are_told : UnchangedAreTold) where
  pub records_tell_all : RecordsTellAll
  records_tell_all before after [] places records run are t name named =
      run t ∙ ap (λ rs. after_calls (before t) (calls_named name rs)) (sym are)
  records_tell_all before after (p ∷ ps) places records (mid, first, rest) (inl (bytes, more, is, asks, turns, unrefused, are)) t name named =
      records_tell_all mid after ps places more rest are t name named
      ∙ ap (λ s. after_calls s (calls_named name more)) (made ∙ ap (λ o. after_calls (before t) (cons_option o [])) (sym told_here))
      ∙ after_more full_is_for_new looks_keep_all queries_keep_all step_has_memory unchanged_are_told (before t) (call_told name (told bytes))
      (calls_named name more)
      ∙ ap (λ rs. after_calls (before t) (calls_named name rs)) (sym is)
    where
      made : mid t ≡ after_calls (before t) (cons_option (cond (p.0.speaker.tenant == t) (Some p.0.call) None) [])
      made = one_made full_is_for_new looks_keep_all queries_keep_all step_has_memory unchanged_are_told before mid p.0 p.1 first unrefused t

      told_here : call_told name (told bytes) ≡ cond (p.0.speaker.tenant == t) (Some p.0.call) None
      told_here = one_asked places t name named (told bytes) ∙ ap (call_asked t) asks
  records_tell_all before after (p ∷ ps) places records (mid, first, rest) (inr (uncounted, are)) t name named =
      records_tell_all mid after ps places records rest are t name named
      ∙ ap (λ s. after_calls s (calls_named name records))
      (others_keep_all full_is_for_new looks_keep_all queries_keep_all step_has_memory unchanged_are_told before mid p.0 p.1 first uncounted t)

-- ---- the parts of a record

-- the value before a map, from the value after it
from_map : {A B : Type 0} (f : A → B) (o : Option A) (y : B) → option_map f o ≡ Some y → (x : A) × (o ≡ Some x) × (f x ≡ y)
from_map f (Some x) y h = (x, refl, cc)
from_map f None y h = cc

parts_join : (bytes : List ℕ) (p : List ℕ × List ℕ) → parts_of bytes ≡ Some p → bytes ≡ record_of p.0 p.1
parts_join [] p h = cc
parts_join (b ∷ bytes) p h = by (λ q e. parts_join bytes q e) (is_space b) refl h
  where
    by : ((q : List ℕ × List ℕ) → parts_of bytes ≡ Some q → bytes ≡ record_of q.0 q.1) → (t : Bool) → is_space b ≡ t
        → cond t (Some ([], bytes)) (option_map (λ q. (b ∷ q.0, q.1)) (parts_of bytes)) ≡ Some p
        → b ∷ bytes ≡ record_of p.0 p.1
    by more true is e =
        let space : b ≡ 32 = eqb-true b 32 is in
        let here : ([], bytes) ≡ p = cc in
        subst (λ q. b ∷ bytes ≡ record_of q.0 q.1) here (ap (λ x. x ∷ bytes) space)
    by more false is e =
        let (q, some, here) = from_map (λ (q : List ℕ × List ℕ). (b ∷ q.0, q.1)) (parts_of bytes) p e in
        subst (λ r. b ∷ bytes ≡ record_of r.0 r.1) here (ap (λ x. b ∷ x) (more q some))

-- a name and a line are the parts of their record
pub parts_of-record_of : (name line : List ℕ) → list_all (λ b. not (is_space b)) name ≡ true → parts_of (record_of name line) ≡ Some (name, line)
parts_of-record_of [] line h = refl
parts_of-record_of (b ∷ name) line h = by (λ e. parts_of-record_of name line e) (is_space b) h
  where
    by : (list_all (λ x. not (is_space x)) name ≡ true → parts_of (record_of name line) ≡ Some (name, line))
        → (t : Bool) → (not t && list_all (λ x. not (is_space x)) name) ≡ true
        → cond {A = Option (List ℕ × List ℕ)} t (Some ([], record_of name line))
        (option_map (λ q. (b ∷ q.0, q.1)) (parts_of (record_of name line)))
        ≡ Some (b ∷ name, line)
    by more true e = cc
    by more false e = ap (option_map (λ q. (b ∷ q.0, q.1))) (more e)

-- without a space there are no parts
pub parts_of-none : (bytes : List ℕ) → list_all (λ b. not (is_space b)) bytes ≡ true → parts_of bytes ≡ None
parts_of-none [] h = refl
parts_of-none (b ∷ bytes) h = by (λ e. parts_of-none bytes e) (is_space b) h
  where
    by : (list_all (λ x. not (is_space x)) bytes ≡ true → parts_of bytes ≡ None)
        → (t : Bool) → (not t && list_all (λ x. not (is_space x)) bytes) ≡ true
        → cond {A = Option (List ℕ × List ℕ)} t (Some ([], bytes)) (option_map (λ q. (b ∷ q.0, q.1)) (parts_of bytes)) ≡ None
    by more true e = cc
    by more false e = ap (option_map (λ q. (b ∷ q.0, q.1))) (more e)

-- a name has no space
name_byte_is : (b : ℕ) → is_name_byte b ≡ true → not (is_space b) ≡ true
name_byte_is b h = by (is_space b) refl
  where
    by : (t : Bool) → is_space b ≡ t → not t ≡ true
    by true is = let space : b ≡ 32 = eqb-true b 32 is in let no : is_name_byte 32 ≡ true = ap is_name_byte (sym space) ∙ h in cc
    by false is = refl

names_have_no_space : (bytes : List ℕ) → list_all is_name_byte bytes ≡ true → list_all (λ b. not (is_space b)) bytes ≡ true
names_have_no_space [] h = refl
names_have_no_space (b ∷ bytes) h =
    and_from (not (is_space b)) _ (name_byte_is b (and_left (is_name_byte b) _ h)) (names_have_no_space bytes (and_right (is_name_byte b) _ h))

pub name_has_no_space : (name : List ℕ) → is_name name ≡ true → list_all (λ b. not (is_space b)) name ≡ true
name_has_no_space name h = names_have_no_space name (and_right (nat_le 1 (length name) && nat_le (length name) 32) (list_all is_name_byte name) h)

-- the call of a line that is one that changes arrays
change_is : (o : Option Line) (call : Call) → change_in o ≡ Some call → (o ≡ Some (request.Call call)) × (changes call ≡ true)
change_is None call h = cc
change_is (Some (request.Auth name token)) call h = cc
change_is (Some request.Quit) call h = cc
change_is (Some request.Ping) call h = cc
change_is (Some request.Hello) call h = cc
change_is (Some (request.Call c)) call h = by (changes c) refl h
  where
    by : (b : Bool) → changes c ≡ b → cond b (Some c) None ≡ Some call
        → (Some (request.Call c) ≡ Some (request.Call call)) × (changes call ≡ true)
    by true is e = let same : c ≡ call = cc in (ap (λ x. Some (request.Call x)) same, sym (ap changes same) ∙ is)
    by false is e = cc

-- and back
is_change : (o : Option Line) (call : Call) → o ≡ Some (request.Call call) → changes call ≡ true → change_in o ≡ Some call
is_change o call is h = ap change_in is ∙ ap (λ b. cond b (Some call) None) h

-- what a record tells is its name, and the call of its line
told_parts : (p : List ℕ × List ℕ) (change : Told) → told_in (Some p) ≡ Some change
    → (p.0 ≡ change.name) × (is_name p.0 ≡ true) × (change_of p.1 ≡ Some change.call)
told_parts p change h = by (is_name p.0) refl h
  where
    by : (b : Bool) → is_name p.0 ≡ b → cond b (option_map (λ call. record { name = p.0; call = call }) (change_of p.1)) None ≡ Some change
        → (p.0 ≡ change.name) × (is_name p.0 ≡ true) × (change_of p.1 ≡ Some change.call)
    by true is e =
        let (call, some, here) = from_map (λ (call : Call). record { name = p.0; call = call }) (change_of p.1) change e in
        (ap (λ (c : Told). c.name) here, is, some ∙ ap (λ (c : Told). Some c.call) here)
    by false is e = cc

-- the parts of a record that tells a change
told_by : (bytes : List ℕ) (o : Option (List ℕ × List ℕ)) (change : Told) → parts_of bytes ≡ o → told_in o ≡ Some change
    → (line : List ℕ) × (bytes ≡ record_of change.name line) × (is_name change.name ≡ true)
    × (request_of line ≡ Some (request.Call change.call)) × (changes change.call ≡ true)
told_by bytes None change is h = cc
told_by bytes (Some p) change is h =
    let (named, good, asks) = told_parts p change h in
    let (reads, turns) = change_is (request_of p.1) change.call asks in
    (p.1, subst (λ n. bytes ≡ record_of n p.1) named (parts_join bytes p is), subst (λ n. is_name n ≡ true) named good, reads, turns)

-- a record of a name and of a line that changes arrays tells this change
told_of_line : (name line : List ℕ) (call : Call) → is_name name ≡ true → request_of line ≡ Some (request.Call call) → changes call ≡ true
    → told (record_of name line) ≡ Some (record { name = name; call = call })
told_of_line name line call good reads turns =
    ap told_in (parts_of-record_of name line (name_has_no_space name good))
    ∙ ap (λ b. cond b (option_map (λ c. record { name = name; call = c }) (change_of line)) None) good
    ∙ ap (option_map (λ c. record { name = name; call = c })) (is_change (request_of line) call reads turns)

pub records_tell_one_change : RecordsTellOneChange
records_tell_one_change bytes change = (
  λ h. told_by bytes (parts_of bytes) change refl h,
  λ (line, is, good, reads, turns). ap told is ∙ told_of_line change.name line change.call good reads turns,
)

-- ---- what a record asks for

-- a reply that lets a record pass is no refusal
pub outcome_is : (r : Reply) → outcome r ≡ Ok tt → is_refused r ≡ false
outcome_is reply.Full h = cc
outcome_is reply.ReadOnly h = cc
outcome_is reply.Frozen h = cc
outcome_is reply.Memory h = cc
outcome_is _ h = refl

-- the change of a record is one that changes arrays
told_changes : (bytes : List ℕ) (change : Told) → told bytes ≡ Some change → changes change.call ≡ true
told_changes bytes change h = ((records_tell_one_change bytes change).0 h).4

-- a record asks for a call that changes arrays, made with the right to change them
pub asked_again : (places : Places) (bytes : List ℕ) (event : Event) → event_told places bytes ≡ Ok event
    → (again event ≡ event) × (changes event.call ≡ true)
asked_again places bytes event h = by (told bytes) refl h
  where
    at : (call : Call) (o : Option ℕ) → changes call ≡ true → event_at call o ≡ Ok event → (again event ≡ event) × (changes event.call ≡ true)
    at call None turns e = cc
    at call (Some u) turns e =
        let same : again (record { speaker = record { tenant = u; right = Change }; call = call }) ≡ event = cc in
        (subst (λ (x : Event). again x ≡ x) same refl, subst (λ (x : Event). changes x.call ≡ true) same turns)

    by : (o : Option Told) → told bytes ≡ o → event_for places o ≡ Ok event → (again event ≡ event) × (changes event.call ≡ true)
    by None is e = cc
    by (Some change) is e = at change.call (places change.name) (told_changes bytes change is) e

-- the record of a call that is recorded asks for it again, if the name leads to its tenant
pub asks_again : (places : Places) (name line : List ℕ) (event : Event) → is_name name ≡ true → places name ≡ Some event.speaker.tenant
    → request_of line ≡ Some (request.Call event.call) → changes event.call ≡ true → event_told places (record_of name line) ≡ Ok (again event)
asks_again places name line event good found reads turns =
    ap (event_for places) (told_of_line name line event.call good reads turns) ∙ ap (event_at event.call) found

-- ---- records a ++ b

pub calls_named-append : (name : List ℕ) (records more : List (List ℕ))
    → calls_named name (records ++ more) ≡ calls_named name records ++ calls_named name more
calls_named-append name records more =
    ap (filter_map (call_told name)) (map-append told records more) ∙ filter_map-append (call_told name) (map told records) (map told more)

-- the arrays that records a ++ b make
pub after_records-append : (s : State) (name : List ℕ) (records more : List (List ℕ))
    → after_calls s (calls_named name (records ++ more)) ≡ after_calls (after_calls s (calls_named name records)) (calls_named name more)
after_records-append s name records more =
    ap (after_calls s) (calls_named-append name records more) ∙ after_calls-append s (calls_named name records) (calls_named name more)

-- the records of a run, and then those of the next
pub AreRecords-append : (places : Places) (ps qs : List (Event × Reply)) (records more : List (List ℕ)) → AreRecords places ps records
    → AreRecords places qs more → AreRecords places (ps ++ qs) (records ++ more)
AreRecords-append places [] qs records more are also = subst (λ rs. AreRecords places qs (rs ++ more)) (sym are) also
AreRecords-append places (p ∷ ps) qs records more (inl (bytes, rest, is, asks, turns, unrefused, are)) also =
    inl (bytes, rest ++ more, ap (λ rs. rs ++ more) is, asks, turns, unrefused, AreRecords-append places ps qs rest more are also)
AreRecords-append places (p ∷ ps) qs records more (inr (uncounted, are)) also =
    inr (uncounted, AreRecords-append places ps qs records more are also)
