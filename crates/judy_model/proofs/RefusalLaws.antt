-- When a call is refused, and what stays unchanged.
use Rattle.std.proofs.Common.{◌≡◌, ℕ, Bool, true, false, not, cond, ◌&&◌, List, refl, sym, ◌∙◌, ap, Option, Some, None, ◌⊎◌, inl, inr}
use Rattle.std.specs.Prelude.{◌==◌, IsTrue, is_some}
use Rattle.std.specs.FinMap.{find}
use Rattle.std.proofs.lemmas.Bool.{and_from}
use Rattle.judy_model.specs.declared.calls.Call.{Call}
use Rattle.judy_model.specs.declared.calls.Call.TheVariants.{One, Long, Str, Bytes, Intersect, Names, Used}
use Rattle.judy_model.specs.declared.calls.Given.{Given}
use Rattle.judy_model.specs.declared.quotas.Quota.{Quota}
use Rattle.judy_model.specs.declared.quotas.Right.{Right}
use Rattle.judy_model.specs.declared.quotas.Right.TheVariants.{Change, Look, Frozen}
use Rattle.judy_model.specs.declared.replies.Reply.{Reply}
use Rattle.judy_model.specs.declared.replies.Reply.TheVariants as reply
use Rattle.judy_model.specs.Contents.{Order, Entries, word_order, string_order, value_of, has_key}
use Rattle.judy_model.specs.Tenant.Effect.{Insert, Keep, Exchange, Remove, Take, RemoveIf, Pop, Cut, Fill, Free, Ask}
use Rattle.judy_model.specs.Tenant.Answer.{Yes, Number, Index, Absent, ValueOf, ValueAt, ValueKey, Listed}
use Rattle.judy_model.specs.Tenant.Reports.{ReportsNew, ReportsValue}
use Rattle.judy_model.specs.Tenant.{keep_over, exchange_over, remove_over}
use Rattle.judy_model.specs.Tenant.{Effect, Answer, Reports, State, content_of, with_content, insertion_reply, insert_over, insert, index_or_no}
use Rattle.judy_model.specs.Tenant.{value_at_or_null, value_key_or_null, value_or_null, absent_or_no, reply_of, effect_step, effect_changes}
use Rattle.judy_model.specs.Tenant.{effect_asks_for_new, one_effect, long_effect, string_effect, bytes_effect, changes}
use Rattle.judy_model.specs.Tenant.{is_read_only, refusal_of, asks_for_new, has_room, allowed_step, step}
use Rattle.judy_model.specs.Tenant.{Lack, Shown, fill_at, fill_over, lack_reply, lacks, pop_over, shown_reply}
use Rattle.judy_model.specs.Tenant.Shown.{AnIndex, AnEntry, AString}
use Rattle.judy_model.specs.Tenant.Lack.{NoIndex, NoEntry}
use Rattle.judy_model.specs.Solo.{is_memory, StepHasMemory}
use Rattle.judy_model.specs.WellFormed.{is_one_entry, is_long_entry, is_string_entry, is_bytes_entry, IsWellFormed, FullIsForNew, LooksKeepAll, QueriesKeepAll}
use Rattle.judy_model.proofs.lemmas.FormLemmas.{with_content_same}

-- which refusal a reply is: 1 for the read-only right, 2 for the quota, 3 for memory, 4 for that of a frozen
-- tenant; 0 for no refusal
abbrev refusal : Reply → ℕ
refusal reply.ReadOnly = 1
refusal reply.Full = 2
refusal reply.Memory = 3
refusal reply.Frozen = 4
refusal _ = 0

-- the refusal of a call without room for a new entry
abbrev at_quota : Bool → Bool → ℕ
at_quota asks room = cond (asks && not room) 2 0

-- ---- an entry that is found is no refusal

index_found : (o : Option (ℕ × ℕ)) → refusal (index_or_no o) ≡ 0
index_found (Some e) = refl
index_found None = refl

value_at_found : (o : Option (ℕ × ℕ)) → refusal (value_at_or_null o) ≡ 0
value_at_found (Some e) = refl
value_at_found None = refl

value_key_found : (o : Option (List ℕ × ℕ)) → refusal (value_key_or_null o) ≡ 0
value_key_found (Some e) = refl
value_key_found None = refl

value_found : (o : Option ℕ) → refusal (value_or_null o) ≡ 0
value_found (Some v) = refl
value_found None = refl

absent_found : (o : Option ℕ) → refusal (absent_or_no o) ≡ 0
absent_found (Some v) = refl
absent_found None = refl

-- nor is an entry that is shown, or its lack
shown_found : (s : Shown) → refusal (shown_reply s) ≡ 0
shown_found (AnIndex i) = refl
shown_found (AnEntry v i) = refl
shown_found (AString v key) = refl

lacked : (lack : Lack) → refusal (lack_reply lack) ≡ 0
lacked NoIndex = refl
lacked NoEntry = refl

-- nor is any other answer
answered : (a : Answer) → refusal (reply_of a) ≡ 0
answered (Yes b) = refl
answered (Number n) = refl
answered (Index o) = index_found o
answered (Absent o) = absent_found o
answered (ValueOf o) = value_found o
answered (ValueAt o) = value_at_found o
answered (ValueKey o) = value_key_found o
answered (Listed texts) = refl

-- nor is the reply to an insertion that is made
inserted : (reports : Reports) (given : Given) (had : Option ℕ) → refusal (insertion_reply reports given had) ≡ 0
inserted ReportsNew given had = refl
inserted ReportsValue given had = refl

-- ---- a call of an array is refused exactly if it asks for a new entry without room

fill_refusal : {K : Type 0} (order : Order K) (room : Bool) (l : Entries K) (index : K → ℕ) (v : ℕ) (found : Option K)
    → refusal (fill_over order room l index v found).0 ≡ at_quota (lacks order l found) room
fill_refusal order room l index v None = refl
fill_refusal order room l index v (Some k) = by (value_of order l k) room
  where
    by : (had : Option ℕ) (r : Bool) → refusal (fill_at order r l (index k) k v had).0 ≡ at_quota (not (is_some had)) r
    by (Some w) r = refl
    by None true = refl
    by None false = refl

effect_refusal : {K : Type 0} (order : Order K) (room : Bool) (l : Entries K) (effect : Effect K)
    → refusal (effect_step order room l effect).0 ≡ at_quota (effect_asks_for_new order l effect) room
effect_refusal order room l (Insert k given reports) = by (find order k l) room
  where
    by : (had : Option ℕ) (r : Bool) → refusal (insert_over order r l k given reports had).0 ≡ at_quota (not (is_some had)) r
    by (Some v) r = inserted reports given (Some v)
    by None true = inserted reports given None
    by None false = refl
effect_refusal order room l (Keep k v) = by (find order k l) room
  where
    by : (had : Option ℕ) (r : Bool) → refusal (keep_over order r l k v had).0 ≡ at_quota (not (is_some had)) r
    by (Some w) r = refl
    by None true = refl
    by None false = refl
effect_refusal order room l (Exchange k old new) = by (value_of order l k)
  where
    by : (had : Option ℕ) → refusal (exchange_over order l k old new had).0 ≡ 0
    by (Some v) = refl
    by None = refl
effect_refusal order room l (Remove k) = refl
effect_refusal order room l (Take k) = value_found (value_of order l k)
effect_refusal order room l (RemoveIf k v) = by (value_of order l k)
  where
    by : (had : Option ℕ) → refusal (remove_over order l k v had).0 ≡ 0
    by (Some w) = refl
    by None = refl
effect_refusal {K = K} order room l (Pop find show lack) = by (find l)
  where
    by : (found : Option (K × ℕ)) → refusal (pop_over order l show lack found).0 ≡ 0
    by (Some e) = shown_found (show e)
    by None = lacked lack
effect_refusal order room l (Cut find n) = refl
effect_refusal order room l (Fill x find index v) = fill_refusal order room l index v (find l)
effect_refusal order room l Free = refl
effect_refusal order room l (Ask answer) = answered (answer l)

-- ---- what a call leaves unchanged

-- an insertion without room
insert_kept : {K : Type 0} (order : Order K) (room : Bool) (l : Entries K) (k : K) (given : Given) (reports : Reports)
    → (not (has_key order l k) && not room) ≡ true → (insert order room l k given reports).1 ≡ l
insert_kept order room l k given reports = by (find order k l) room
  where
    by : (had : Option ℕ) (r : Bool) → (not (is_some had) && not r) ≡ true → (insert_over order r l k given reports had).1 ≡ l
    by (Some v) r e = cc
    by None true e = cc
    by None false e = refl

-- a key for which there is no room is not kept
keep_kept : {K : Type 0} (order : Order K) (room : Bool) (l : Entries K) (k : K) (v : ℕ) (had : Option ℕ)
    → (not (is_some had) && not room) ≡ true → (keep_over order room l k v had).1 ≡ l
keep_kept order room l k v (Some w) e = cc
keep_kept order true l k v None e = cc
keep_kept order false l k v None e = refl

-- nor is a key that is found
fill_kept : {K : Type 0} (order : Order K) (room : Bool) (l : Entries K) (index : K → ℕ) (v : ℕ) (found : Option K)
    → (lacks order l found && not room) ≡ true → (fill_over order room l index v found).1 ≡ l
fill_kept order room l index v None e = refl
fill_kept order room l index v (Some k) e = by (value_of order l k) room e
  where
    by : (had : Option ℕ) (r : Bool) → (not (is_some had) && not r) ≡ true → (fill_at order r l (index k) k v had).1 ≡ l
    by (Some w) r e = refl
    by None true e = cc
    by None false e = refl

-- a call that changes nothing, or has no room, leaves the array unchanged
abbrev Rests : Bool → Bool → Bool → Type 0
Rests changing asks room = IsTrue (not changing) ⊎ IsTrue (asks && not room)

effect_kept : {K : Type 0} (order : Order K) (room : Bool) (l : Entries K) (effect : Effect K)
    → Rests (effect_changes effect) (effect_asks_for_new order l effect) room → (effect_step order room l effect).1 ≡ l
effect_kept order room l (Insert k given reports) (inl h) = cc
effect_kept order room l (Insert k given reports) (inr h) = insert_kept order room l k given reports h
effect_kept order room l (Keep k v) (inl h) = cc
effect_kept order room l (Keep k v) (inr h) = keep_kept order room l k v (value_of order l k) h
effect_kept order room l (Exchange k old new) (inl h) = cc
effect_kept order room l (Exchange k old new) (inr h) = cc
effect_kept order room l (Take k) (inl h) = cc
effect_kept order room l (Take k) (inr h) = cc
effect_kept order room l (RemoveIf k v) (inl h) = cc
effect_kept order room l (RemoveIf k v) (inr h) = cc
effect_kept order room l (Remove k) (inl h) = cc
effect_kept order room l (Remove k) (inr h) = cc
effect_kept order room l (Pop find show lack) (inl h) = cc
effect_kept order room l (Pop find show lack) (inr h) = cc
effect_kept order room l (Cut find n) (inl h) = cc
effect_kept order room l (Cut find n) (inr h) = cc
effect_kept order room l (Fill x find index v) (inl h) = cc
effect_kept order room l (Fill x find index v) (inr h) = fill_kept order room l index v (find l) h
effect_kept order room l Free (inl h) = cc
effect_kept order room l Free (inr h) = cc
effect_kept order room l (Ask answer) h = refl

-- a call that changes nothing asks for no new entry
effect_asks_nothing : {K : Type 0} (order : Order K) (l : Entries K) (effect : Effect K) → effect_changes effect ≡ false → effect_asks_for_new order l effect ≡ false
effect_asks_nothing order l (Insert k given reports) h = cc
effect_asks_nothing order l (Keep k v) h = cc
effect_asks_nothing order l (Exchange k old new) h = refl
effect_asks_nothing order l (Remove k) h = refl
effect_asks_nothing order l (Take k) h = refl
effect_asks_nothing order l (RemoveIf k v) h = refl
effect_asks_nothing order l (Pop find show lack) h = refl
effect_asks_nothing order l (Cut find n) h = refl
effect_asks_nothing order l (Fill x find index v) h = cc
effect_asks_nothing order l Free h = refl
effect_asks_nothing order l (Ask answer) h = refl

-- ---- a call of a tenant

-- a call that its right allows is refused exactly if it asks for a new entry without room
allowed_refusal : (quota : Quota) (s : State) (call : Call) → refusal (allowed_step quota s call).0 ≡ at_quota
    (asks_for_new Change s call) (has_room quota s call)
allowed_refusal quota s (One name c) = effect_refusal word_order (has_room quota s (One name c)) (content_of s.one name) (one_effect c)
allowed_refusal quota s (Long name c) = effect_refusal word_order (has_room quota s (Long name c)) (content_of s.long name) (long_effect c)
allowed_refusal quota s (Str name c) = effect_refusal string_order (has_room quota s (Str name c)) (content_of s.string name) (string_effect c)
allowed_refusal quota s (Bytes name c) = effect_refusal string_order (has_room quota s (Bytes name c)) (content_of s.bytes name) (bytes_effect c)
allowed_refusal quota s (Intersect name other i n) = refl
allowed_refusal quota s (Names from n) = refl
allowed_refusal quota s Used = refl

-- a call that changes nothing, or has no room, leaves the arrays unchanged
pub allowed_kept : (quota : Quota) (s : State) (call : Call) → IsWellFormed s → Rests (changes call) (asks_for_new Change s call) (has_room quota s call)
    → (allowed_step quota s call).1 ≡ s
allowed_kept quota s (One name c) h e =
    ap (λ l. record s { one = with_content s.one name l }) (effect_kept word_order (has_room quota s (One name c)) (content_of s.one name) (one_effect c) e)
    ∙ ap (λ arrays. record s { one = arrays }) (with_content_same word_order is_one_entry s.one name h.one)
allowed_kept quota s (Long name c) h e =
    ap (λ l. record s { long = with_content s.long name l }) (effect_kept word_order (has_room quota s (Long name c)) (content_of s.long name) (long_effect c) e)
    ∙ ap (λ arrays. record s { long = arrays }) (with_content_same word_order is_long_entry s.long name h.long)
allowed_kept quota s (Str name c) h e =
    ap (λ l. record s { string = with_content s.string name l }) (effect_kept string_order (has_room quota s (Str name c)) (content_of s.string name) (string_effect c) e)
    ∙ ap (λ arrays. record s { string = arrays }) (with_content_same string_order is_string_entry s.string name h.string)
allowed_kept quota s (Bytes name c) h e =
    ap (λ l. record s { bytes = with_content s.bytes name l }) (effect_kept string_order (has_room quota s (Bytes name c)) (content_of s.bytes name) (bytes_effect c) e)
    ∙ ap (λ arrays. record s { bytes = arrays }) (with_content_same string_order is_bytes_entry s.bytes name h.bytes)
allowed_kept quota s (Intersect name other i n) h e = refl
allowed_kept quota s (Names from n) h e = refl
allowed_kept quota s Used h e = refl

-- a call that changes nothing asks for no new entry
queries_ask_nothing : (s : State) (call : Call) → changes call ≡ false → asks_for_new Change s call ≡ false
queries_ask_nothing s (One name c) h = effect_asks_nothing word_order (content_of s.one name) (one_effect c) h
queries_ask_nothing s (Long name c) h = effect_asks_nothing word_order (content_of s.long name) (long_effect c) h
queries_ask_nothing s (Str name c) h = effect_asks_nothing string_order (content_of s.string name) (string_effect c) h
queries_ask_nothing s (Bytes name c) h = effect_asks_nothing string_order (content_of s.bytes name) (bytes_effect c) h
queries_ask_nothing s (Intersect name other i n) h = refl
queries_ask_nothing s (Names from n) h = refl
queries_ask_nothing s Used h = refl

-- the refusal of a call under a right that forbids each change
forbidden_refusal : (r : Reply) (quota : Quota) (s : State) (call : Call)
    → refusal (cond {A = Reply × State} (changes call) (r, s) (allowed_step quota s call)).0 ≡ cond (changes call) (refusal r) 0
forbidden_refusal r quota s call = by (changes call) refl
  where
    by : (b : Bool) → changes call ≡ b → refusal (cond {A = Reply × State} b (r, s) (allowed_step quota s call)).0 ≡ cond b (refusal r) 0
    by true is = refl
    by false is = allowed_refusal quota s call ∙ ap (λ a. at_quota a (has_room quota s call)) (queries_ask_nothing s call is)

-- the refusal of a call, under any right
step_refusal : (right : Right) (quota : Quota) (s : State) (call : Call)
    → refusal (step right quota s call).0
    ≡ cond (is_read_only right call) (refusal (refusal_of right)) (at_quota (asks_for_new right s call) (has_room quota s call))
step_refusal Change quota s call = allowed_refusal quota s call
step_refusal Look quota s call = forbidden_refusal reply.ReadOnly quota s call
step_refusal Frozen quota s call = forbidden_refusal reply.Frozen quota s call

-- a call that its right forbids asks for no new entry
asks_is_allowed : (right : Right) (s : State) (call : Call) → asks_for_new right s call ≡ true → is_read_only right call ≡ false
asks_is_allowed Change s call h = refl
asks_is_allowed Look s call h = cc
asks_is_allowed Frozen s call h = cc

-- the replies, by their refusals
memory_is : (r : Reply) → is_memory r ≡ (refusal r == 3)
memory_is reply.Memory = refl
memory_is _ = refl

full_is : (r : Reply) → refusal r ≡ 2 → r ≡ reply.Full
full_is reply.Full h = refl
full_is reply.ReadOnly h = cc
full_is reply.Memory h = cc
full_is reply.Frozen h = cc
full_is _ h = cc

read_only_is : (r : Reply) → refusal r ≡ 1 → r ≡ reply.ReadOnly
read_only_is reply.ReadOnly h = refl
read_only_is reply.Full h = cc
read_only_is reply.Memory h = cc
read_only_is reply.Frozen h = cc
read_only_is _ h = cc

frozen_is : (r : Reply) → refusal r ≡ 4 → r ≡ reply.Frozen
frozen_is reply.Frozen h = refl
frozen_is reply.ReadOnly h = cc
frozen_is reply.Full h = cc
frozen_is reply.Memory h = cc
frozen_is _ h = cc

-- ---- the laws

-- a tenant alone never gets `ERR MEMORY`
pub step_has_memory : StepHasMemory
step_has_memory right quota s call =
    memory_is (step right quota s call).0 ∙ ap (λ n. n == 3) (step_refusal right quota s call)
    ∙ never (is_read_only right call) (asks_for_new right s call && not (has_room quota s call)) right
  where
    never : (b a : Bool) (r : Right) → (cond {A = ℕ} b (refusal (refusal_of r)) (cond a 2 0) == 3) ≡ false
    never true a Change = refl
    never true a Look = refl
    never true a Frozen = refl
    never false true r = refl
    never false false r = refl

-- under a right that forbids each change nothing changes
forbidden_keeps : (r : Reply) (quota : Quota) (s : State) (call : Call) → IsWellFormed s
    → (cond {A = Reply × State} (changes call) (r, s) (allowed_step quota s call)).1 ≡ s
forbidden_keeps r quota s call h = by (changes call) refl
  where
    by : (b : Bool) → changes call ≡ b → (cond {A = Reply × State} b (r, s) (allowed_step quota s call)).1 ≡ s
    by true is = refl
    by false is = allowed_kept quota s call h (inl (ap not is))

pub look_keeps : (quota : Quota) (s : State) (call : Call) → IsWellFormed s → (step Look quota s call).1 ≡ s
look_keeps quota s call h = forbidden_keeps reply.ReadOnly quota s call h

pub frozen_keeps : (quota : Quota) (s : State) (call : Call) → IsWellFormed s → (step Frozen quota s call).1 ≡ s
frozen_keeps quota s call h = forbidden_keeps reply.Frozen quota s call h

pub looks_keep_all : LooksKeepAll
looks_keep_all right quota s call = (
  (told right, tells),
  (told_frozen right, tells_frozen),
  λ h. (look_keeps quota s call h, frozen_keeps quota s call h),
)
  where
    told : (r : Right) → (step r quota s call).0 ≡ reply.ReadOnly → (r ≡ Look) × IsTrue (changes call)
    told Change e = never (asks_for_new Change s call && not (has_room quota s call)) (sym (allowed_refusal quota s call) ∙ ap refusal e)
      where
        never : (a : Bool) → ◌≡◌ {A = ℕ} (cond a 2 0) 1 → (Change ≡ Look) × IsTrue (changes call)
        never true h = absurd (let no : 2 ≡ 1 = h in cc)
        never false h = absurd (let no : 0 ≡ 1 = h in cc)
    told Look e = (refl, from (changes call) (sym (step_refusal Look quota s call) ∙ ap refusal e))
      where
        from : (b : Bool) → ◌≡◌ {A = ℕ} (cond b 1 0) 1 → b ≡ true
        from true h = refl
        from false h = absurd (let no : 0 ≡ 1 = h in cc)
    told Frozen e = never (changes call) (sym (step_refusal Frozen quota s call) ∙ ap refusal e)
      where
        never : (b : Bool) → ◌≡◌ {A = ℕ} (cond b 4 0) 1 → (Frozen ≡ Look) × IsTrue (changes call)
        never true h = absurd (let no : 4 ≡ 1 = h in cc)
        never false h = absurd (let no : 0 ≡ 1 = h in cc)

    tells : (right ≡ Look) × IsTrue (changes call) → (step right quota s call).0 ≡ reply.ReadOnly
    tells (e, h) =
        ap (λ r. (step r quota s call).0) e
        ∙ read_only_is (step Look quota s call).0 (step_refusal Look quota s call ∙ ap (λ b. cond {A = ℕ} b 1 0) h)

    told_frozen : (r : Right) → (step r quota s call).0 ≡ reply.Frozen → (r ≡ Frozen) × IsTrue (changes call)
    told_frozen Change e = never (asks_for_new Change s call && not (has_room quota s call)) (sym (allowed_refusal quota s call) ∙ ap refusal e)
      where
        never : (a : Bool) → ◌≡◌ {A = ℕ} (cond a 2 0) 4 → (Change ≡ Frozen) × IsTrue (changes call)
        never true h = absurd (let no : 2 ≡ 4 = h in cc)
        never false h = absurd (let no : 0 ≡ 4 = h in cc)
    told_frozen Look e = never (changes call) (sym (step_refusal Look quota s call) ∙ ap refusal e)
      where
        never : (b : Bool) → ◌≡◌ {A = ℕ} (cond b 1 0) 4 → (Look ≡ Frozen) × IsTrue (changes call)
        never true h = absurd (let no : 1 ≡ 4 = h in cc)
        never false h = absurd (let no : 0 ≡ 4 = h in cc)
    told_frozen Frozen e = (refl, from (changes call) (sym (step_refusal Frozen quota s call) ∙ ap refusal e))
      where
        from : (b : Bool) → ◌≡◌ {A = ℕ} (cond b 4 0) 4 → b ≡ true
        from true h = refl
        from false h = absurd (let no : 0 ≡ 4 = h in cc)

    tells_frozen : (right ≡ Frozen) × IsTrue (changes call) → (step right quota s call).0 ≡ reply.Frozen
    tells_frozen (e, h) =
        ap (λ r. (step r quota s call).0) e
        ∙ frozen_is (step Frozen quota s call).0 (step_refusal Frozen quota s call ∙ ap (λ b. cond {A = ℕ} b 4 0) h)

-- a call that changes nothing leaves the arrays unchanged, under any right
pub queries_keep_all : QueriesKeepAll
queries_keep_all Change quota s call h query = allowed_kept quota s call h (inl (ap not query))
queries_keep_all Look quota s call h query = look_keeps quota s call h
queries_keep_all Frozen quota s call h query = frozen_keeps quota s call h

-- the reply is `FULL` exactly for a new entry without room, and then nothing changes
pub full_is_for_new : FullIsForNew
full_is_for_new right quota s call = ((told, tells), kept right)
  where
    from : (b a r : Bool) (right : Right) → ◌≡◌ {A = ℕ} (cond b (refusal (refusal_of right)) (at_quota a r)) 2 → IsTrue a × IsTrue (not r)
    from true a r Change h = absurd (let no : 1 ≡ 2 = h in cc)
    from true a r Look h = absurd (let no : 1 ≡ 2 = h in cc)
    from true a r Frozen h = absurd (let no : 4 ≡ 2 = h in cc)
    from false true true right h = absurd (let no : 0 ≡ 2 = h in cc)
    from false true false right h = (refl, refl)
    from false false r right h = absurd (let no : 0 ≡ 2 = h in cc)

    told : (step right quota s call).0 ≡ reply.Full → IsTrue (asks_for_new right s call) × IsTrue (not (has_room quota s call))
    told e = from (is_read_only right call) (asks_for_new right s call) (has_room quota s call) right (sym (step_refusal right quota s call) ∙ ap refusal e)

    tells : IsTrue (asks_for_new right s call) × IsTrue (not (has_room quota s call)) → (step right quota s call).0 ≡ reply.Full
    tells (a, m) = full_is (step right quota s call).0
        (step_refusal right quota s call
        ∙ ap (λ b. cond b (refusal (refusal_of right)) (at_quota (asks_for_new right s call) (has_room quota s call))) (asks_is_allowed right s call a)
        ∙ ap (λ b. cond b 2 0) (and_from (asks_for_new right s call) _ a m))

    kept : (r : Right) → IsWellFormed s → (step r quota s call).0 ≡ reply.Full → (step r quota s call).1 ≡ s
    kept Look h e = look_keeps quota s call h
    kept Frozen h e = frozen_keeps quota s call h
    kept Change h e =
        let (a, m) = from false (asks_for_new Change s call) (has_room quota s call) Change (sym (allowed_refusal quota s call) ∙ ap refusal e) in
        allowed_kept quota s call h (inr (and_from (asks_for_new Change s call) _ a m))
