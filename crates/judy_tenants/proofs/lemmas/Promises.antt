-- What a call and a service promise, in the words of docs/PROMISES.md, from their public contracts.
--     overwrites-rest   a call that asks for no new entry takes nothing and is not refused for memory
--     refusals-keep     `FULL` and `ERR READONLY` change nothing and take nothing
--     whole-keep        nor does a call that names no array, or two
--     start-stays       names are looked up by the same hashes after every call
--     others-rest       the words of the other tenants' arrays are the same after every call
--     memory-means      `ERR MEMORY` has one of two causes
--     few-are-placed    while fewer than 256 arrays have entries, no name is without a place
--     quota-holds       no tenant has more entries or pieces than its quota
--     words-add-up      all words are those of the tenants' arrays
--     words-are-few     a tenant's words are bounded by its quota, those of a Judy1 or JudyL by its
--                       entries
--     words-are-some    an array with entries has at least 4 words
--     memory-is-bounded the words ever live at once, and those taken from the machine, are bounded by
--                       what the tenants' quotas allow, for ever
--     one-table         which are those of the table, if it is the only one so far
use Rattle.std.proofs.Common.{◌≡◌, ◌≢◌, ◌⊎◌, inl, inr, ℕ, zero, suc, ◌+◌, ◌*◌, ◌<◌, ◌≤◌, Bool, true, false, cond, List, [], length, ap, sym, ◌∙◌, subst, refl, arith}
use Rattle.std.specs.Prelude.{max, MatchBool}
use Rattle.judy_arena.specs.Blocks.{count_up}
use Rattle.judy_model.specs.declared.calls.OneCall.{OneCall}
use Rattle.judy_model.specs.declared.calls.LongCall.{LongCall}
use Rattle.judy_model.specs.declared.calls.StrCall.{StrCall}
use Rattle.judy_model.specs.declared.calls.BytesCall.{BytesCall}
use Rattle.judy_model.specs.declared.calls.Call.TheVariants as call
use Rattle.judy_model.specs.declared.quotas.Quota.{Quota}
use Rattle.judy_model.specs.declared.replies.Reply.{Reply}
use Rattle.judy_model.specs.declared.replies.Reply.TheVariants as reply
use Rattle.judy_model.specs.Tenant.{State, Attempt, content_of, used, pieces, asks_for_new, attempt_step}
use Rattle.judy_model.specs.WellFormed.{has_entries}
use Rattle.judy_model.specs.Solo.{is_memory, MayLackMemory}
use Rattle.judy_model.specs.Speakers.{Event, Speaker}
use Rattle.judy_kinds.specs.Laws.{AreFewWords}
use Rattle.judy_kinds.specs.Calls.{is_of_array, kind_of_call, blocks_of_kind}
use Rattle.judy_tenants.specs.Held.{Held, ServiceTakes, all_quotas, words_for, states_of, sizes_of, quotas_of, tenant_words, words_named, all_words, all_arrays}
use Rattle.judy_tenants.specs.Held.{IsQuiet, IsShortService, IsUnplaced, IsSoundService, IsCallOf, is_refusal}

-- ---- one call

module _ (old : Held) (event : Event) (r : Reply) (new : Held) (call_of : IsCallOf old event r new) where
  -- the arrays of the tenant that makes the call
  abbrev mine : State
  mine = states_of old event.speaker.tenant

  -- a refusal for memory answers a call that asks for a new entry
  asked : (quota : Quota) (s last : State) (a : Attempt) (given : Reply) → (b : Bool)
      → MatchBool b (MayLackMemory quota s a × (last ≡ s)) (attempt_step quota s a ≡ (given, last)) → asks_for_new a.right s a.call ≡ false → b ≡ false
  asked quota s last a given true h nothing = absurd (unlike (sym nothing ∙ h.0.0))
    where
      unlike : false ≡ true → ⊥
      unlike e = cc
  asked quota s last a given false h nothing = refl

  -- with no block nothing comes from the machine
  still : (b : Bool) → b ≡ false → ServiceTakes (cond {A = ℕ} b (blocks_of_kind (kind_of_call event.call)) 0) old new → new.region ≡ old.region
  still true e t = absurd (unlike e)
    where
      unlike : true ≡ false → ⊥
      unlike h = cc
  still false e t = let most = t.region in let kept = t.kept in omega (arith, most, kept)

  -- a call that asks for no new entry is not refused for memory, takes no words from the machine, and
  -- nothing is refused to it
  pub overwrites-rest : asks_for_new event.speaker.right mine event.call ≡ false → (is_memory r ≡ false) × (new.region ≡ old.region) × IsQuiet old new
  overwrites-rest nothing =
      let served : is_memory r ≡ false = asked (quotas_of old.tenants event.speaker.tenant) mine (states_of new event.speaker.tenant)
      (record { right = event.speaker.right; call = event.call }) r (is_memory r) call_of.served.answered nothing in (
        served,
        still (asks_for_new event.speaker.right mine event.call) nothing call_of.keeps.memory,
        subst (λ b. MatchBool b (IsShortService old new ⊎ IsUnplaced event old new) (IsQuiet old new)) served call_of.cause,
      )

  -- `FULL`, `ERR READONLY` and `ERR FROZEN` change no array, and take no words from the machine
  pub refusals-keep : (r ≡ reply.Full) ⊎ (r ≡ reply.ReadOnly) ⊎ (r ≡ reply.Frozen) → ((t : ℕ) → states_of new t ≡ states_of old t) × (new.region ≡ old.region) × (new ≡ old)
  refusals-keep h = let same : new ≡ old = by h in (λ t. ap (λ (s : Held). states_of s t) same, ap (λ (s : Held). s.region) same, same)
    where
      by : (r ≡ reply.Full) ⊎ (r ≡ reply.ReadOnly) ⊎ (r ≡ reply.Frozen) → new ≡ old
      by (inl e) = call_of.keeps.refused (ap is_refusal e)
      by (inr (inl e)) = call_of.keeps.refused (ap is_refusal e)
      by (inr (inr e)) = call_of.keeps.refused (ap is_refusal e)

  -- nor does a call that names no array, or two
  pub whole-keep : is_of_array event.call ≡ false → ((t : ℕ) → states_of new t ≡ states_of old t) × (new.region ≡ old.region) × (new ≡ old)
  whole-keep h = let same = call_of.keeps.whole h in (λ t. ap (λ (s : Held). states_of s t) same, ap (λ (s : Held). s.region) same, same)

  -- names are looked up by the same hashes, and by the same table, and there is room for as many; the
  -- quotas allow as many words
  pub start-stays : (new.start ≡ old.start) × (new.tenants ≡ old.tenants) × (new.room ≡ old.room) × (new.granted ≡ old.granted)
  start-stays = (call_of.keeps.start, call_of.keeps.tenants, call_of.keeps.room, call_of.keeps.granted)

  -- the other tenants keep their arrays, and the words of each
  pub others-rest : (t : ℕ) → t ≢ event.speaker.tenant → (states_of new t ≡ states_of old t) × (sizes_of new t ≡ sizes_of old t)
  others-rest t h = (call_of.served.others t h, call_of.keeps.others t h)

-- the reasons for `ERR MEMORY`: the arena refused a block, which is counted; or the directory had no
-- place for a new name, which is counted, while as many arrays of all tenants had entries as it has
-- room for
pub memory-means : (old : Held) (event : Event) (r : Reply) (new : Held) → IsSoundService old → IsCallOf old event r new → is_memory r ≡ true
    → ((new.refusals ≡ count_up old.refusals) × (new.unplaced ≡ old.unplaced))
    ⊎ ((new.refusals ≡ old.refusals) × (new.unplaced ≡ count_up old.unplaced) × (old.room ≤ all_arrays (length old.tenants) (states_of old)))
memory-means old event r new sound h e =
    by (subst (λ b. MatchBool b (IsShortService old new ⊎ IsUnplaced event old new) (IsQuiet old new)) e h.cause)
  where
    by : IsShortService old new ⊎ IsUnplaced event old new
        → ((new.refusals ≡ count_up old.refusals) × (new.unplaced ≡ old.unplaced))
        ⊎ ((new.refusals ≡ old.refusals) × (new.unplaced ≡ count_up old.unplaced) × (old.room ≤ all_arrays (length old.tenants) (states_of old)))
    by (inl s) = inl (s.refusals, s.unplaced)
    by (inr u) = inr (u.refusals, u.unplaced, subst (λ n. old.room ≤ n) sound.names u.many)

-- the second case needs 256 arrays with entries: there is always room for these names
pub few-are-placed : (old : Held) (event : Event) (new : Held) → IsSoundService old → all_arrays (length old.tenants) (states_of old) < 256
    → IsUnplaced event old new → ⊥
few-are-placed old event new sound few u =
    let room = sound.room in let names = sound.names in let many = u.many in omega (arith, few, room, names, many)

-- in the second case the array that the call names had no entries; so a name that has an array is
-- never refused for its place
module _ (old new : Held) (who : Speaker) (name : List ℕ) where
  pub unplaced-one : (c : OneCall) → IsUnplaced (record { speaker = who; call = call.One name c }) old new → content_of (states_of old who.tenant).one name ≡ []
  unplaced-one c u = u.empty

  pub unplaced-long : (c : LongCall) → IsUnplaced (record { speaker = who; call = call.Long name c }) old new → content_of (states_of old who.tenant).long name ≡ []
  unplaced-long c u = u.empty

  pub unplaced-string : (c : StrCall) → IsUnplaced (record { speaker = who; call = call.Str name c }) old new
      → content_of (states_of old who.tenant).string name ≡ []
  unplaced-string c u = u.empty

  pub unplaced-bytes : (c : BytesCall) → IsUnplaced (record { speaker = who; call = call.Bytes name c }) old new
      → content_of (states_of old who.tenant).bytes name ≡ []
  unplaced-bytes c u = u.empty

-- ---- a service at any time

module _ (held : Held) (sound : IsSoundService held) (t : ℕ) where
  -- no tenant has more entries or pieces than its quota
  pub quota-holds : (used (states_of held t) ≤ (quotas_of held.tenants t).entries) × (pieces (states_of held t) ≤ (quotas_of held.tenants t).pieces)
  quota-holds = sound.within t

  -- a tenant's words are at most 16 for each of its pieces, and for each piece of its quota
  pub words-are-few : (tenant_words (sizes_of held t) ≤ 16 * pieces (states_of held t))
      × (tenant_words (sizes_of held t) ≤ 16 * (quotas_of held.tenants t).pieces)
  words-are-few = ((sound.shares t).pieces, (sound.shares t).most)

  -- n entries with few words: at most 12 n - 8, and none for no entries
  few : (n words : ℕ) → AreFewWords n words → (n ≡ 0 → words ≡ 0) × (0 < n → words + 8 ≤ 12 * n)
  few zero words h = (λ e. h, λ some. absurd (omega (arith, some)))
  few (suc n) words h = (λ e. absurd (omega (arith, e)), λ some. h)

  -- a Judy1 of n entries has at most 12 n - 8 words, and so has a JudyL
  pub words-of-one : (name : List ℕ) → let n = length (content_of (states_of held t).one name) in let words = words_named (sizes_of held t).one name in
      (n ≡ 0 → words ≡ 0) × (0 < n → words + 8 ≤ 12 * n)
  words-of-one name = few _ _ ((sound.shares t).one name)

  pub words-of-long : (name : List ℕ) → let n = length (content_of (states_of held t).long name) in let words = words_named (sizes_of held t).long name in
      (n ≡ 0 → words ≡ 0) × (0 < n → words + 8 ≤ 12 * n)
  words-of-long name = few _ _ ((sound.shares t).long name)

  -- an array with entries has at least 4 words, of each kind
  pub words-are-some : (name : List ℕ)
      → (has_entries (content_of (states_of held t).one name) ≡ true → 4 ≤ words_named (sizes_of held t).one name)
      × (has_entries (content_of (states_of held t).long name) ≡ true → 4 ≤ words_named (sizes_of held t).long name)
      × (has_entries (content_of (states_of held t).string name) ≡ true → 4 ≤ words_named (sizes_of held t).string name)
      × (has_entries (content_of (states_of held t).bytes name) ≡ true → 4 ≤ words_named (sizes_of held t).bytes name)
  words-are-some name =
      let least = (sound.shares t).least in (least.one name, least.long name, least.string name, least.bytes name)

-- all words are those of the tenants' arrays, and those taken from the machine are bounded by the
-- most that were live at once
pub words-add-up : (held : Held) → IsSoundService held
    → (held.words ≡ all_words (length held.tenants) (sizes_of held)) × (held.words ≤ held.peak) × (held.region ≤ max held.reserved (128 * held.peak + 512))
words-add-up held sound = (sound.sum, sound.live, sound.region)

-- the words ever live at once are bounded by what the tenants' quotas allow, and so are the words taken
-- from the machine: for ever, whatever was called
pub memory-is-bounded : (held : Held) → IsSoundService held
    → (held.peak ≤ held.granted) × (held.region ≤ max held.reserved (128 * held.granted + 512)) × (words_for held.tenants ≤ held.granted)
memory-is-bounded held sound = (sound.peak, sound.machine, sound.granted)

-- with one table so far, its quotas bound them
pub one-table : (held : Held) → IsSoundService held → held.granted ≡ words_for held.tenants
    → (held.peak ≤ 16 * all_quotas (length held.tenants) (quotas_of held.tenants) + 194560) × (held.region ≤ max held.reserved (128 * words_for held.tenants + 512))
one-table held sound one = (subst (λ n. held.peak ≤ n) one sound.peak, subst (λ n. held.region ≤ max held.reserved (128 * n + 512)) one sound.machine)
