-- What holds of a tenant's arrays after any calls.
use Rattle.std.specs.Prelude.{◌≡◌, ◌≢◌, ℕ, ◌+◌, ◌≤◌, Bool, true, false, not, ◌&&◌, List, [], ◌∷◌, ◌↔◌, IsTrue, nat_le, ◌==◌, Option, Some, None, map, take, length, if◌then◌else◌}
use Rattle.std.specs.List.{list_all}
use Rattle.std.specs.FinMap.{is_sorted}
use Rattle.judy_model.specs.declared.calls.Call.{Call}
use Rattle.judy_model.specs.declared.calls.Call.TheVariants.{One, Long, Str, Bytes, Intersect, Names, Used}
use Rattle.judy_model.specs.declared.quotas.Quota.{Quota}
use Rattle.judy_model.specs.declared.quotas.Right.{Right}
use Rattle.judy_model.specs.declared.quotas.Right.TheVariants.{Look, Frozen}
use Rattle.judy_model.specs.declared.replies.Reply.{Reply}
use Rattle.judy_model.specs.declared.replies.Reply.TheVariants as reply
use Rattle.judy_model.specs.declared.calls.Search.TheVariants.{Next}
use Rattle.judy_model.specs.declared.commands.Kind.{Kind}
use Rattle.judy_model.specs.declared.commands.Kind.TheVariants as kind
use Rattle.judy_model.specs.ArrayLists.{array_key, array_texts, array_words}
use Rattle.judy_model.specs.Contents.{Order, Entries, IsRising, word_order, string_order, max_word, value_of}
use Rattle.judy_model.specs.Walks.{in_direction}
use Rattle.judy_model.specs.Grammar.{are_bytes, is_string, is_byte_key}
use Rattle.judy_model.specs.Solo.{IsAnswered}
use Rattle.judy_model.specs.Tenant.Effect.{Insert, Keep, Exchange, Fill}
use Rattle.judy_model.specs.Tenant.{Effect, one_effect, long_effect, string_effect, bytes_effect, value_after}
use Rattle.judy_model.specs.Tenant.{Arrays, State, array_counts, Attempt, content_of, used, pieces, step, changes, asks_for_new, new_pieces, has_room}

-- a number that fits a word
abbrev pub is_word : ℕ → Bool
is_word n = nat_le n max_word

-- an entry of a set: a word, and the value 0
abbrev pub is_one_entry : ℕ × ℕ → Bool
is_one_entry e = is_word e.0 && e.1 == 0

-- an entry of a JudyL
abbrev pub is_long_entry : ℕ × ℕ → Bool
is_long_entry e = is_word e.0 && is_word e.1

-- an entry of a JudySL
abbrev pub is_string_entry : List ℕ × ℕ → Bool
is_string_entry e = is_string e.0 && are_bytes e.0 && is_word e.1

-- an entry of a JudyHS
abbrev pub is_bytes_entry : List ℕ × ℕ → Bool
is_bytes_entry e = is_byte_key e.0 && are_bytes e.0 && is_word e.1

-- the keys are strictly increasing, and each entry passes the test of its kind
abbrev pub is_content : {K : Type 0} → Order K → (K × ℕ → Bool) → Entries K → Bool
is_content order is_entry entries = is_sorted order entries && list_all is_entry entries

-- whether there is an entry
abbrev pub has_entries : {K : Type 0} → Entries K → Bool
has_entries [] = false
has_entries (e ∷ es) = true

-- the names are strictly increasing, and each array has entries of its kind
abbrev pub are_arrays : {K : Type 0} → Order K → (K × ℕ → Bool) → Arrays K → Bool
are_arrays order is_entry arrays = is_sorted string_order arrays && list_all (λ a. has_entries a.1 && is_content order is_entry a.1) arrays

-- the arrays of each kind are well-formed
pub record IsWellFormed (s : State) : Type 0 where
  pub one : IsTrue (are_arrays word_order is_one_entry s.one)
  pub long : IsTrue (are_arrays word_order is_long_entry s.long)
  pub string : IsTrue (are_arrays string_order is_string_entry s.string)
  pub bytes : IsTrue (are_arrays string_order is_bytes_entry s.bytes)

-- What a key would be inserted or written with is an entry, by the test of its kind. Of a key that is still to
-- be found it is the key at which the search begins.
abbrev pub effect_writes : {K : Type 0} → (K × ℕ → Bool) → Effect K → Bool
effect_writes is_entry (Insert k given reports) = is_entry (k, value_after given 0)
effect_writes is_entry (Keep k v) = is_entry (k, v)
effect_writes is_entry (Exchange k old new) = is_entry (k, new)
effect_writes is_entry (Fill x find index v) = is_entry (x, v)
effect_writes is_entry _ = true

-- what the call would insert or write is an entry of its kind
abbrev pub writes_entry : Call → Bool
writes_entry (One name c) = effect_writes is_one_entry (one_effect c)
writes_entry (Long name c) = effect_writes is_long_entry (long_effect c)
writes_entry (Str name c) = effect_writes is_string_entry (string_effect c)
writes_entry (Bytes name c) = effect_writes is_bytes_entry (bytes_effect c)
writes_entry (Intersect name other i n) = true
writes_entry (Names from n) = true
writes_entry Used = true

-- a call keeps a well-formed state well-formed
abbrev pub StepKeepsForm : Type 0
StepKeepsForm = (right : Right) (quota : Quota) (s : State) (call : Call) → IsWellFormed s → IsTrue (writes_entry call)
    → IsWellFormed (step right quota s call).1

-- how a number can change: it grows by n for a new entry with room; it does not change for a new
-- entry without room; any other call never raises it
abbrev pub Grows : Bool → Bool → ℕ → ℕ → ℕ → Type 0
Grows true true n before after = after ≡ before + n
Grows true false n before after = after ≡ before
Grows false room n before after = after ≤ before

-- at most as many entries and pieces as the quota allows
abbrev pub IsWithin : Quota → State → Type 0
IsWithin quota s = (used s ≤ quota.entries) × (pieces s ≤ quota.pieces)

-- A call adds an entry and its pieces only if it asks for a new entry and the quota has room. So a
-- tenant never exceeds its quota.
abbrev pub StepKeepsQuota : Type 0
StepKeepsQuota = (right : Right) (quota : Quota) (s : State) (call : Call) → IsWellFormed s → let new = (step right quota s call).1 in
    let asks = asks_for_new right s call in let room = has_room quota s call in
    Grows asks room 1 (used s) (used new)
    × Grows asks room (new_pieces call) (pieces s) (pieces new)
    × (IsWithin quota s → IsWithin quota new)

-- the reply is `FULL` exactly if the call asks for a new entry without room; then nothing changes
abbrev pub FullIsForNew : Type 0
FullIsForNew = (right : Right) (quota : Quota) (s : State) (call : Call) → let answered = step right quota s call in
    (answered.0 ≡ reply.Full ↔ (IsTrue (asks_for_new right s call) × IsTrue (not (has_room quota s call))))
    × (IsWellFormed s → answered.0 ≡ reply.Full → answered.1 ≡ s)

-- the reply is `ERR READONLY` exactly if the call can change arrays and its right is the read-only one,
-- and `ERR FROZEN` exactly if it can and its right is that of a frozen tenant; under these two rights
-- nothing ever changes
abbrev pub LooksKeepAll : Type 0
LooksKeepAll = (right : Right) (quota : Quota) (s : State) (call : Call) → let answered = step right quota s call in
    (answered.0 ≡ reply.ReadOnly ↔ ((right ≡ Look) × IsTrue (changes call)))
    × (answered.0 ≡ reply.Frozen ↔ ((right ≡ Frozen) × IsTrue (changes call)))
    × (IsWellFormed s → ((step Look quota s call).1 ≡ s) × ((step Frozen quota s call).1 ≡ s))

-- a call that cannot change arrays leaves all arrays unchanged, under any right
abbrev pub QueriesKeepAll : Type 0
QueriesKeepAll = (right : Right) (quota : Quota) (s : State) (call : Call) → IsWellFormed s → changes call ≡ false → (step right quota s call).1 ≡ s

-- the arrays of all other names of a kind are unchanged
abbrev pub OthersOfKindStay : {K : Type 0} → List ℕ → Arrays K → Arrays K → Type 0
OthersOfKindStay name before after = (other : List ℕ) → other ≢ name → content_of after other ≡ content_of before other

-- every array is unchanged, except the one that the call names
abbrev pub OtherArraysStay : Call → State → State → Type 0
OtherArraysStay (One name c) before after =
    OthersOfKindStay name before.one after.one × (after.long ≡ before.long) × (after.string ≡ before.string) × (after.bytes ≡ before.bytes)
OtherArraysStay (Long name c) before after =
    OthersOfKindStay name before.long after.long × (after.one ≡ before.one) × (after.string ≡ before.string) × (after.bytes ≡ before.bytes)
OtherArraysStay (Str name c) before after =
    OthersOfKindStay name before.string after.string × (after.one ≡ before.one) × (after.long ≡ before.long) × (after.bytes ≡ before.bytes)
OtherArraysStay (Bytes name c) before after =
    OthersOfKindStay name before.bytes after.bytes × (after.one ≡ before.one) × (after.long ≡ before.long) × (after.string ≡ before.string)
OtherArraysStay (Intersect name other i n) before after = after ≡ before
OtherArraysStay (Names from n) before after = after ≡ before
OtherArraysStay Used before after = after ≡ before

-- each call leaves them unchanged
abbrev pub CallsKeepOthers : Type 0
CallsKeepOthers = (right : Right) (quota : Quota) (s : State) (call : Call) → OtherArraysStay call s (step right quota s call).1

-- an answer to a tenant among others, refused or not, keeps its arrays well-formed and within the
-- quota, and leaves all arrays unchanged except the one that the call names
abbrev pub AnswersKeepAll : Type 0
AnswersKeepAll = (quota : Quota) (s : State) (a : Attempt) (given : Reply) (new : State)
    → IsAnswered quota s a given new → IsWellFormed s → IsTrue (writes_entry a.call)
    → IsWellFormed new × (IsWithin quota s → IsWithin quota new) × OtherArraysStay a.call s new

-- ---- lists of arrays

-- how many entries the array of this kind and name has
abbrev pub entries_of_array : State → Kind → List ℕ → ℕ
entries_of_array s kind.One name = length (content_of s.one name)
entries_of_array s kind.Long name = length (content_of s.long name)
entries_of_array s kind.Str name = length (content_of s.string name)
entries_of_array s kind.Bytes name = length (content_of s.bytes name)

-- a number of entries, if it is not 0
abbrev pub some_entries : ℕ → Option ℕ
some_entries n = if n == 0 then None else Some n

-- A list of arrays has the next n of them, in the order of kinds, then of names. They are the arrays that have
-- entries, each once, with how many they have, and no others.
abbrev pub ArraysAreListed : Type 0
ArraysAreListed = (s : State) → IsWellFormed s
    → IsRising string_order (array_counts s)
    × ((kind : Kind) (name : List ℕ) → value_of string_order (array_counts s) (array_key kind name) ≡ some_entries (entries_of_array s kind name))
    × (length (array_counts s) ≡ length s.one + length s.long + length s.string + length s.bytes)
    × ((key : List ℕ) (n : ℕ) → array_texts (array_counts s) key n ≡ map array_words (take n (in_direction string_order (array_counts s) Next key)))
