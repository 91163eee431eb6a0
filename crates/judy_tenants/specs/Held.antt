-- The value of a service, as contracts see it.
--     Held                           the table's tenants, the arrays of each, and the counts
--     states_of held t               a tenant's arrays; none for a tenant that is not in the table
--     quotas_of tenants t            a tenant's quota; 0 for a tenant that is not in the table
--     HasServiceSpace held           the blocks of all arrays have few words
--     all_arrays n states            how many arrays of the first n tenants have entries
--     HasNames held                  the number of names is the number of arrays that have entries
--     HasCause event old reply new   the reply is `Memory` exactly if a request was refused
--     sizes_of held t                the words in the blocks of each array of a tenant
--     IsShare quota s z              a tenant's arrays have few words for its pieces and for its
--                                    quota
--     all_words n sizes              the words of all arrays of the first n tenants
--     HasLeast s z                   each array with entries has at least 4 words
--     words_for tenants              the most words that the quotas of a table allow to be live at
--                                    once
--     blocks_of_event s event        the blocks that a call takes at most
--     ServiceTakes n old new         a call takes at most n blocks
--     IsSoundService held            what holds of a service at all times
--     Keeps event old reply new      what is unchanged after a call
--     IsReserved old new             memory was taken beforehand, and nothing else changed
--     HasNoReserve words old new     the machine did not have that much
--     IsCallOf old event reply new   how one call changes a service
use Rattle.std.specs.Prelude.{◌≡◌, ◌⊎◌, ◌+◌, ◌≤◌, ◌*◌, ℕ, zero, suc, Bool, true, false, List, [], length, map, get_or, count_by}
use Rattle.std.specs.Prelude.{sum_by, unwrap_or, IsFalse, IsTrue, MatchBool, ◌≢◌, if◌then◌else◌, max, ◌%◌, ◌<◌}
use Rattle.std.specs.List.{range_with_len}
use Rattle.std.specs.FinMap.{find}
use Rattle.judy_arena.specs.Blocks.{count_up}
use Rattle.judy_arena.specs.Takes.{Rise}
use Rattle.judy_model.specs.declared.calls.Call.{Call}
use Rattle.judy_model.specs.declared.calls.Call.TheVariants.{One, Long, Str, Bytes, Intersect, Names, Used}
use Rattle.judy_model.specs.declared.quotas.Quota.{Quota}
use Rattle.judy_model.specs.declared.replies.Reply.{Reply}
use Rattle.judy_model.specs.declared.replies.Reply.TheVariants as reply
use Rattle.judy_model.specs.Contents.{string_order}
use Rattle.judy_model.specs.Tenant.{Arrays, State, no_arrays, content_of, pieces, asks_for_new}
use Rattle.judy_model.specs.WellFormed.{has_entries, IsWellFormed, IsWithin}
use Rattle.judy_model.specs.Solo.{is_memory}
use Rattle.judy_model.specs.Service.{Quotas, States, IsServed, all_pieces}
use Rattle.judy_model.specs.Speakers.{Event}
use Rattle.judy_kinds.specs.Laws.{AreFewWords}
use Rattle.judy_kinds.specs.Calls.{is_of_array, kind_of_call, blocks_of_kind}
use Rattle.judy_table.specs.declared.tenant.Tenant.{Tenant}

-- the words in the blocks of each array of a tenant, by the array's name
pub record Sizes : Type 0 where
  pub one : List (List ℕ × ℕ)
  pub long : List (List ℕ × ℕ)
  pub string : List (List ℕ × ℕ)
  pub bytes : List (List ℕ × ℕ)

-- no array has a block
abbrev pub no_sizes : Sizes
no_sizes = record { one = []; long = []; string = []; bytes = [] }

-- the value of a service
pub record Held : Type 0 where
  -- the tenants of the table
  pub tenants : List Tenant
  -- the arrays of each of them, in the order of the table
  pub arrays : List State
  -- the words in the blocks of their arrays
  pub sizes : List Sizes
  -- requests for a block that the arena refused
  pub refusals : ℕ
  -- new names that the directory had no memory for
  pub unplaced : ℕ
  -- arrays that have entries
  pub names : ℕ
  -- the bytes of their names, added up, modulo 2^64
  pub name_bytes : ℕ
  -- words in live blocks
  pub words : ℕ
  -- words that the arena took from the machine
  pub region : ℕ
  -- the greatest number of words that were live at once
  pub peak : ℕ
  -- words that the arena had taken from the machine when it last took some beforehand
  pub reserved : ℕ
  -- the start of the hash of each name
  pub start : ℕ
  -- names that are sure to get a place
  pub room : ℕ
  -- the most words that the quotas of a table so far allow to be live at once
  pub granted : ℕ

-- the arrays of each tenant
abbrev pub states_of : Held → States
states_of held t = get_or held.arrays t no_arrays

-- the values of a function for the first n tenants, in order
abbrev pub firsts : {A : Type 0} → ℕ → (ℕ → A) → List A
firsts n told = map told (range_with_len 0 n)

-- the words of each tenant's arrays
abbrev pub sizes_of : Held → ℕ → Sizes
sizes_of held t = get_or held.sizes t no_sizes

-- the words of the array with this name
abbrev pub words_named : List (List ℕ × ℕ) → List ℕ → ℕ
words_named sizes name = unwrap_or (find string_order name sizes) 0

-- the words of these arrays, added up
abbrev pub summed_words : List (List ℕ × ℕ) → ℕ
summed_words sizes = sum_by (λ z. z.1) sizes

-- the words of all arrays of a tenant, added up
abbrev pub tenant_words : Sizes → ℕ
tenant_words z = summed_words z.one + summed_words z.long + summed_words z.string + summed_words z.bytes

-- the words of all arrays of the first n tenants, added up
abbrev pub all_words : ℕ → (ℕ → Sizes) → ℕ
all_words zero sizes = 0
all_words (suc n) sizes = all_words n sizes + tenant_words (sizes n)

-- the quota of no entries
abbrev pub no_quota : Quota
no_quota = record { entries = 0; pieces = 0 }

-- the quota of each tenant
abbrev pub quotas_of : List Tenant → Quotas
quotas_of tenants t = get_or (map (λ tenant. tenant.quota) tenants) t no_quota

-- the pieces of the quotas of the first n tenants, added up
abbrev pub all_quotas : ℕ → Quotas → ℕ
all_quotas zero quotas = 0
all_quotas (suc n) quotas = all_quotas n quotas + (quotas n).pieces

-- the most words that are ever live at once under these quotas: 16 for each piece of them, and those
-- of the 380 blocks that one call takes at most
abbrev pub words_for : List Tenant → ℕ
words_for tenants = 16 * all_quotas (length tenants) (quotas_of tenants) + 194560

-- at most 16 words for each piece of all tenants, and at least 4 for each array
pub record HasServiceSpace (held : Held) : Type 0 where
  pub most : held.words ≤ 16 * all_pieces (length held.tenants) (states_of held)
  pub least : 4 * held.names ≤ held.words

-- how many arrays of a kind have entries
abbrev pub filled_in : {K : Type 0} → Arrays K → ℕ
filled_in arrays = count_by (λ a. has_entries a.1) arrays

-- how many arrays of a tenant have entries
abbrev pub arrays_in : State → ℕ
arrays_in s = filled_in s.one + filled_in s.long + filled_in s.string + filled_in s.bytes

-- how many arrays of the first n tenants have entries
abbrev pub all_arrays : ℕ → States → ℕ
all_arrays zero states = 0
all_arrays (suc n) states = all_arrays n states + arrays_in (states n)

-- the number of names is the number of arrays of all tenants that have entries
abbrev pub HasNames : Held → Type 0
HasNames held = held.names ≡ all_arrays (length held.tenants) (states_of held)

-- each of these arrays that has entries has at least 4 words
abbrev pub HasLeastOf : {K : Type 0} → Arrays K → List (List ℕ × ℕ) → Type 0
HasLeastOf arrays sizes = (name : List ℕ) → IsTrue (has_entries (content_of arrays name)) → 4 ≤ words_named sizes name

-- each array of a tenant that has entries has at least 4 words
pub record HasLeast (s : State) (z : Sizes) : Type 0 where
  pub one : HasLeastOf s.one z.one
  pub long : HasLeastOf s.long z.long
  pub string : HasLeastOf s.string z.string
  pub bytes : HasLeastOf s.bytes z.bytes

-- A tenant's arrays have at most 16 words for each of its pieces, and so for each piece of its
-- quota, and each array with entries has at least 4. A Judy1 or JudyL of n entries has at most
-- 12 n - 8 words, and none if n is 0.
pub record IsShare (quota : Quota) (s : State) (z : Sizes) : Type 0 where
  pub pieces : tenant_words z ≤ 16 * pieces s
  pub most : tenant_words z ≤ 16 * quota.pieces
  pub least : HasLeast s z
  pub one : (name : List ℕ) → AreFewWords (length (content_of s.one name)) (words_named z.one name)
  pub long : (name : List ℕ) → AreFewWords (length (content_of s.long name)) (words_named z.long name)

-- what holds of a service at all times
pub record IsSoundService (held : Held) : Type 0 where
  -- names and keys are strictly increasing, no array is empty, and each entry is one of its kind
  pub form : (t : ℕ) → IsWellFormed (states_of held t)
  -- each tenant is within its quota
  pub within : (t : ℕ) → IsWithin (quotas_of held.tenants t) (states_of held t)
  -- the words of all blocks are those of the arrays of all tenants
  pub sum : held.words ≡ all_words (length held.tenants) (sizes_of held)
  -- the blocks have few words, in total and for each tenant
  pub space : HasServiceSpace held
  pub shares : (t : ℕ) → IsShare (quotas_of held.tenants t) (states_of held t) (sizes_of held t)
  -- the number of names is the number of arrays that have entries
  pub names : HasNames held
  -- 256 names are sure to get a place
  pub room : 256 ≤ held.room
  -- the words taken from the machine are bounded by the words that were live at once, or are those
  -- that were taken beforehand
  pub live : held.words ≤ held.peak
  pub region : held.region ≤ max held.reserved (128 * held.peak + 512)
  -- and so by the quotas of the tables so far, for ever
  pub peak : held.peak ≤ held.granted
  pub machine : held.region ≤ max held.reserved (128 * held.granted + 512)
  pub granted : words_for held.tenants ≤ held.granted

-- the array that the call names has no entries
abbrev pub NamesNothing : State → Call → Type 0
NamesNothing s (One name c) = content_of s.one name ≡ []
NamesNothing s (Long name c) = content_of s.long name ≡ []
NamesNothing s (Str name c) = content_of s.string name ≡ []
NamesNothing s (Bytes name c) = content_of s.bytes name ≡ []
NamesNothing s (Intersect name other i n) = ⊥
NamesNothing s (Names from n) = ⊥
NamesNothing s Used = ⊥

-- no request was refused
pub record IsQuiet (old new : Held) : Type 0 where
  pub refusals : new.refusals ≡ old.refusals
  pub unplaced : new.unplaced ≡ old.unplaced

-- the arena refused a block
pub record IsShortService (old new : Held) : Type 0 where
  pub refusals : new.refusals ≡ count_up old.refusals
  pub unplaced : new.unplaced ≡ old.unplaced

-- the directory had no place for the name of an array without entries, and as many arrays as it has
-- room for have entries
pub record IsUnplaced (event : Event) (old new : Held) : Type 0 where
  pub refusals : new.refusals ≡ old.refusals
  pub unplaced : new.unplaced ≡ count_up old.unplaced
  pub many : old.room ≤ old.names
  pub empty : NamesNothing (states_of old event.speaker.tenant) event.call

-- the reply is `Memory` exactly if a request was refused
abbrev pub HasCause : Event → Held → Reply → Held → Type 0
HasCause event old reply new = MatchBool (is_memory reply) (IsShortService old new ⊎ IsUnplaced event old new) (IsQuiet old new)

-- the refusals for the right, read-only or frozen, and for the quota
abbrev pub is_refusal : Reply → Bool
is_refusal reply.Full = true
is_refusal reply.ReadOnly = true
is_refusal reply.Frozen = true
is_refusal _ = false

-- the blocks that a call takes at most: a number of its kind, and none unless it asks for a new entry
abbrev pub blocks_of_event : State → Event → ℕ
blocks_of_event s event = if asks_for_new event.speaker.right s event.call then blocks_of_kind (kind_of_call event.call) else 0

-- a call that takes at most n blocks, of at most 512 words each
abbrev pub ServiceTakes : ℕ → Held → Held → Type 0
ServiceTakes n old new = Rise n old.refusals old.words old.peak old.region old.reserved new.refusals new.words new.peak new.region new.reserved

-- What a call leaves unchanged. Every call keeps the table, what its quotas allow, the start of the
-- hashes, the room for names, and the words of each array of the other tenants. A call refused for its right or for the quota keeps the whole
-- service, and so does a call that names no array, or two. The words taken from the machine are part of
-- the service; a call takes at most a run of 512 words for each of its blocks, and none if it asks for
-- no new entry.
pub record Keeps (event : Event) (old : Held) (reply : Reply) (new : Held) : Type 0 where
  pub tenants : new.tenants ≡ old.tenants
  pub start : new.start ≡ old.start
  pub room : new.room ≡ old.room
  pub granted : new.granted ≡ old.granted
  pub refused : IsTrue (is_refusal reply) → new ≡ old
  pub whole : IsFalse (is_of_array event.call) → new ≡ old
  pub memory : ServiceTakes (blocks_of_event (states_of old event.speaker.tenant) event) old new
  pub others : (t : ℕ) → t ≢ event.speaker.tenant → sizes_of new t ≡ sizes_of old t

-- memory was taken beforehand: only the words taken from the machine, the room and the count of
-- refused requests may change
abbrev pub IsReserved : Held → Held → Type 0
IsReserved old new = new ≡ record old { refusals = new.refusals; region = new.region; reserved = new.reserved; room = new.room }

-- the machine had no memory for a chunk, before this many words were taken
pub record HasNoChunk (words : ℕ) (old new : Held) : Type 0 where
  pub refusals : new.refusals ≡ count_up old.refusals
  pub whole : new.region % 65536 ≡ 0
  pub short : new.region < words

-- it had no memory for a chunk; or the words were taken, and it had no memory for the room
abbrev pub HasNoReserve : ℕ → Held → Held → Type 0
HasNoReserve words old new = (HasNoChunk words old new ⊎ ((new.refusals ≡ old.refusals) × (words ≤ new.region))) × (new.room ≡ old.room)

-- how one call changes a service
pub record IsCallOf (old : Held) (event : Event) (reply : Reply) (new : Held) : Type 0 where
  -- its tenant is answered as if it were alone, or refused for memory; no other tenant's arrays
  -- change
  pub served : IsServed (quotas_of old.tenants) (states_of old) event reply (states_of new)
  -- a refusal for memory has its cause
  pub cause : HasCause event old reply new
  pub keeps : Keeps event old reply new
  pub sound : IsSoundService new
