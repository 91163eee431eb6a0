-- One tenant's arrays. The reply to each call, and the arrays after it.
use Rattle.std.specs.Prelude.{◌≡◌, ℕ, zero, suc, cond, ◌+◌, ◌%◌, ◌^◌, Bool, true, false, not, ◌&&◌, ◌==◌, List, [], ◌∷◌, ◌++◌, map, length, Option, Some, None, nat_lt, nat_le, if◌then◌else◌, is_none, unwrap_or, sum_by, filter, option_and_then}
use Rattle.std.specs.Ordering.{eq_by_cmp}
use Rattle.std.specs.FinMap.{find, put}
use Rattle.judy_model.specs.declared.calls.Call.{Call}
use Rattle.judy_model.specs.declared.calls.Call.TheVariants.{One, Long, Str, Bytes, Intersect, Names, Used}
use Rattle.judy_model.specs.declared.commands.Kind.TheVariants as kind
use Rattle.judy_model.specs.declared.calls.OneCall.{OneCall}
use Rattle.judy_model.specs.declared.calls.OneCall.TheVariants as one
use Rattle.judy_model.specs.declared.calls.LongCall.{LongCall}
use Rattle.judy_model.specs.declared.calls.LongCall.TheVariants as long
use Rattle.judy_model.specs.declared.calls.StrCall.{StrCall}
use Rattle.judy_model.specs.declared.calls.StrCall.TheVariants as str
use Rattle.judy_model.specs.declared.calls.BytesCall.{BytesCall}
use Rattle.judy_model.specs.declared.calls.BytesCall.TheVariants as bytes
use Rattle.judy_model.specs.declared.calls.Given.{Given}
use Rattle.judy_model.specs.declared.calls.Given.TheVariants.{Nothing, Value, Plus}
use Rattle.judy_model.specs.declared.quotas.Quota.{Quota}
use Rattle.judy_model.specs.declared.quotas.Right.{Right}
use Rattle.judy_model.specs.declared.quotas.Right.TheVariants.{Change, Look, Frozen}
use Rattle.judy_model.specs.declared.replies.Reply.{Reply}
use Rattle.judy_model.specs.declared.replies.Reply.TheVariants as reply
use Rattle.judy_model.specs.Contents.{Order, Entries, word_order, string_order, value_of, has_key, with_entry, without_key, first, next, last, prev, count, nth}
use Rattle.judy_model.specs.Gaps.{first_empty, last_empty, next_empty, prev_empty}
use Rattle.judy_model.specs.Pieces.{word_pieces, string_pieces, pieces_of}
use Rattle.judy_model.specs.Intersections.{intersect, intersection_reply}
use Rattle.judy_model.specs.ArrayLists.{counted, names_reply}
use Rattle.judy_model.specs.Walks.{entry_words, hashed_key, index_words, key_words, listed, walk, walk_bytes, walk_empty, walk_indexes}

-- the arrays of one kind, sorted by name; an array without entries is left out
abbrev pub Arrays : Type 0 → Type 0
Arrays K = List (List ℕ × Entries K)

-- all arrays of a tenant, by kind
pub record State : Type 0 where
  pub one : Arrays ℕ
  pub long : Arrays ℕ
  pub string : Arrays (List ℕ)
  pub bytes : Arrays (List ℕ)

-- a tenant with no entries
abbrev pub no_arrays : State
no_arrays = record { one = []; long = []; string = []; bytes = [] }

-- the entries of the array with this name
abbrev pub content_of : {K : Type 0} → Arrays K → List ℕ → Entries K
content_of arrays name = unwrap_or (find string_order name arrays) []

-- the arrays after the one with this name gets these entries; it is removed if there are none
abbrev pub with_content : {K : Type 0} → Arrays K → List ℕ → Entries K → Arrays K
with_content arrays name [] = filter (λ a. not (eq_by_cmp string_order name a.0)) arrays
with_content arrays name (e ∷ es) = put string_order name (e ∷ es) arrays

-- the number of entries of the arrays
abbrev pub entries_in : {K : Type 0} → Arrays K → ℕ
entries_in arrays = sum_by (λ a. length a.1) arrays

-- the number of entries of the tenant
abbrev pub used : State → ℕ
used s = entries_in s.one + entries_in s.long + entries_in s.string + entries_in s.bytes

-- the number of entries of each array of the tenant, in the order of kinds, then of names
abbrev pub array_counts : State → Entries (List ℕ)
array_counts s = counted kind.One s.one ++ (counted kind.Long s.long ++ (counted kind.Str s.string ++ counted kind.Bytes s.bytes))

-- the pieces of the arrays of one kind
abbrev pub pieces_in : {K : Type 0} → (K → ℕ) → Arrays K → ℕ
pieces_in size arrays = sum_by (λ a. pieces_of size a.1) arrays

-- the pieces of all arrays of a tenant
abbrev pub pieces : State → ℕ
pieces s = pieces_in word_pieces s.one + pieces_in word_pieces s.long + pieces_in string_pieces s.string + pieces_in string_pieces s.bytes

-- a search of a set: the index, or 0
abbrev pub index_or_no : Option (ℕ × ℕ) → Reply
index_or_no (Some e) = reply.Index e.0
index_or_no None = reply.Int false

-- a search of a JudyL: the value with the index, or nothing
abbrev pub value_at_or_null : Option (ℕ × ℕ) → Reply
value_at_or_null (Some e) = reply.ValueAt e.1 e.0
value_at_or_null None = reply.Null

-- a search of a JudySL: the value with the string, or nothing
abbrev pub value_key_or_null : Option (List ℕ × ℕ) → Reply
value_key_or_null (Some e) = reply.ValueKey e.1 e.0
value_key_or_null None = reply.Null

-- a look at a key: its value, or nothing
abbrev pub value_or_null : Option ℕ → Reply
value_or_null (Some v) = reply.Value v
value_or_null None = reply.Null

-- a search for an absent word: that word, or 0
abbrev pub absent_or_no : Option ℕ → Reply
absent_or_no (Some x) = reply.Index x
absent_or_no None = reply.Int false

-- ---- what a call does to an array

-- the answer to a call that changes nothing
pub data Answer : Type 0 where
  -- yes or no
  Yes : Bool → Answer
  -- a number of entries
  Number : ℕ → Answer
  -- the index of an entry of a set
  Index : Option (ℕ × ℕ) → Answer
  -- an absent word
  Absent : Option ℕ → Answer
  -- the value of a key
  ValueOf : Option ℕ → Answer
  -- the value and the index of an entry of a JudyL
  ValueAt : Option (ℕ × ℕ) → Answer
  -- the value and the string of an entry of a JudySL
  ValueKey : Option (List ℕ × ℕ) → Answer
  -- the entries of a walk, each as its text
  Listed : List (List ℕ) → Answer

-- the reply with this answer
abbrev pub reply_of : Answer → Reply
reply_of (Yes b) = reply.Int b
reply_of (Number n) = reply.Count n
reply_of (Index o) = index_or_no o
reply_of (Absent o) = absent_or_no o
reply_of (ValueOf o) = value_or_null o
reply_of (ValueAt o) = value_at_or_null o
reply_of (ValueKey o) = value_key_or_null o
reply_of (Listed texts) = reply.Entries (listed texts).0 (listed texts).1

-- an entry that a removal shows
pub data Shown : Type 0 where
  -- the index of one of a set
  AnIndex : ℕ → Shown
  -- the value and the index of one of a JudyL
  AnEntry : ℕ → ℕ → Shown
  -- the value and the string of one of a JudySL
  AString : ℕ → List ℕ → Shown

-- the reply that shows it
abbrev pub shown_reply : Shown → Reply
shown_reply (AnIndex i) = reply.Index i
shown_reply (AnEntry v i) = reply.ValueAt v i
shown_reply (AString v key) = reply.ValueKey v key

-- what the reply to an insertion shows: whether the key was new, or a value
pub data Reports : Type 0 where
  ReportsNew : Reports
  ReportsValue : Reports

-- the reply if a search finds nothing: `0` of a set, `NULL` of a map
pub data Lack : Type 0 where
  NoIndex : Lack
  NoEntry : Lack

abbrev pub lack_reply : Lack → Reply
lack_reply NoIndex = reply.Int false
lack_reply NoEntry = reply.Null

-- What a call does to the entries of an array. A call of a kind of array is one of these with a key of that
-- kind.
pub data Effect (K : Type 0) : Type 0 where
  -- inserts a key with what it is given; a new key needs room
  Insert : K → Given → Reports → Effect K
  -- keeps the value of a present key, and inserts an absent one with this value; a new key needs room
  Keep : K → ℕ → Effect K
  -- gives a present key the second value if it has the first
  Exchange : K → ℕ → ℕ → Effect K
  -- removes a key; the reply says whether it was present
  Remove : K → Effect K
  -- removes a key and shows its value
  Take : K → Effect K
  -- removes a key if it has this value; the reply says whether it had
  RemoveIf : K → ℕ → Effect K
  -- removes the entry that is found, and shows it
  Pop : (Entries K → Option (K × ℕ)) → (K × ℕ → Shown) → Lack → Effect K
  -- Removes the entry that is found, and so on, at most so many; the reply is how many it removed.
  Cut : (Entries K → Option (K × ℕ)) → ℕ → Effect K
  -- Inserts the key that is found with a value, and shows its index; the search begins with this key.
  Fill : K → (Entries K → Option K) → (K → ℕ) → ℕ → Effect K
  -- removes all entries; the reply is how many there were
  Free : Effect K
  -- changes nothing
  Ask : (Entries K → Answer) → Effect K

-- the value of an entry after its insertion, by the value before; an absent entry counts as 0
abbrev pub value_after : Given → ℕ → ℕ
value_after Nothing before = before
value_after (Value v) before = v
value_after (Plus n) before = (before + n) % 2 ^ 64

-- the value that the reply to an insertion shows: the new one after an addition, else the one before
abbrev pub value_replied : Given → ℕ → ℕ
value_replied Nothing before = before
value_replied (Value v) before = before
value_replied (Plus n) before = value_after (Plus n) before

-- the reply to an insertion, by the key's value before, if it was present
abbrev pub insertion_reply : Reports → Given → Option ℕ → Reply
insertion_reply ReportsNew given had = reply.Int (is_none had)
insertion_reply ReportsValue given had = reply.Value (value_replied given (unwrap_or had 0))

-- inserts a key. The last argument is the key's value, if it is present.
abbrev pub insert_over : {K : Type 0} → Order K → Bool → Entries K → K → Given → Reports → Option ℕ → Reply × Entries K
insert_over order room l k given reports (Some v) = (insertion_reply reports given (Some v), with_entry order l k (value_after given v))
insert_over order room l k given reports None =
    if room then (insertion_reply reports given None, with_entry order l k (value_after given 0)) else (reply.Full, l)

-- inserts a key
abbrev pub insert : {K : Type 0} → Order K → Bool → Entries K → K → Given → Reports → Reply × Entries K
insert order room l k given reports = insert_over order room l k given reports (value_of order l k)

-- keeps a key. The last argument is the key's value, if it is present.
abbrev pub keep_over : {K : Type 0} → Order K → Bool → Entries K → K → ℕ → Option ℕ → Reply × Entries K
keep_over order room l k v (Some w) = (reply.Value w, l)
keep_over order room l k v None = if room then (reply.Null, with_entry order l k v) else (reply.Full, l)

-- exchanges the value of a key
abbrev pub exchange_over : {K : Type 0} → Order K → Entries K → K → ℕ → ℕ → Option ℕ → Reply × Entries K
exchange_over order l k old new (Some v) = (reply.Value v, if v == old then with_entry order l k new else l)
exchange_over order l k old new None = (reply.Null, l)

-- removes a key that has a value
abbrev pub remove_over : {K : Type 0} → Order K → Entries K → K → ℕ → Option ℕ → Reply × Entries K
remove_over order l k v (Some w) = (reply.Int (w == v), if w == v then without_key order l k else l)
remove_over order l k v None = (reply.Int false, l)

-- removes a key
abbrev pub delete : {K : Type 0} → Order K → Entries K → K → Reply × Entries K
delete order l k = (reply.Int (has_key order l k), without_key order l k)

-- removes an entry that was found
abbrev pub pop_over : {K : Type 0} → Order K → Entries K → (K × ℕ → Shown) → Lack → Option (K × ℕ) → Reply × Entries K
pop_over order l show lack (Some e) = (shown_reply (show e), without_key order l e.0)
pop_over order l show lack None = (lack_reply lack, l)

-- removes the entry that was found, then what is found next, at most n; how many were removed is added to the first number
abbrev pub cut_from : {K : Type 0} → Order K → (Entries K → Option (K × ℕ)) → ℕ → ℕ → Entries K → Option (K × ℕ) → ℕ × Entries K
cut_from order search done zero l found = (done, l)
cut_from order search done (suc n) l None = (done, l)
cut_from order search done (suc n) l (Some e) =
    let rest = without_key order l e.0 in
    cut_from order search (done + 1) n rest (search rest)

abbrev pub cut : {K : Type 0} → Order K → Entries K → (Entries K → Option (K × ℕ)) → ℕ → ℕ × Entries K
cut order l search n = cut_from order search 0 n l (search l)

-- inserts a key that was found if it is absent; FULL if there is no room for it
abbrev pub fill_at : {K : Type 0} → Order K → Bool → Entries K → ℕ → K → ℕ → Option ℕ → Reply × Entries K
fill_at order room l index k v (Some had) = (reply.Index index, l)
fill_at order room l index k v None = cond room (reply.Index index, with_entry order l k v) (reply.Full, l)

abbrev pub fill_over : {K : Type 0} → Order K → Bool → Entries K → (K → ℕ) → ℕ → Option K → Reply × Entries K
fill_over order room l index v (Some k) = fill_at order room l (index k) k v (value_of order l k)
fill_over order room l index v None = (reply.Int false, l)

-- whether a key that was found is absent
abbrev pub lacks : {K : Type 0} → Order K → Entries K → Option K → Bool
lacks order l (Some k) = not (has_key order l k)
lacks order l None = false

-- removes all entries
abbrev pub free : {K : Type 0} → Entries K → Reply × Entries K
free l = (reply.Count (length l), [])

-- the reply to a call that does this, and the entries afterwards
abbrev pub effect_step : {K : Type 0} → Order K → Bool → Entries K → Effect K → Reply × Entries K
effect_step order room l (Insert k given reports) = insert order room l k given reports
effect_step order room l (Keep k v) = keep_over order room l k v (value_of order l k)
effect_step order room l (Exchange k old new) = exchange_over order l k old new (value_of order l k)
effect_step order room l (Remove k) = delete order l k
effect_step order room l (Take k) = (value_or_null (value_of order l k), without_key order l k)
effect_step order room l (RemoveIf k v) = remove_over order l k v (value_of order l k)
effect_step order room l (Pop find show lack) = pop_over order l show lack (find l)
effect_step order room l (Cut find n) = (reply.Count (cut order l find n).0, (cut order l find n).1)
effect_step order room l (Fill x find index v) = fill_over order room l index v (find l)
effect_step order room l Free = free l
effect_step order room l (Ask answer) = (reply_of (answer l), l)

-- whether it may change the array
abbrev pub effect_changes : {K : Type 0} → Effect K → Bool
effect_changes (Ask answer) = false
effect_changes _ = true

-- whether it may insert a key
abbrev pub effect_inserts : {K : Type 0} → Effect K → Bool
effect_inserts (Insert k given reports) = true
effect_inserts (Keep k v) = true
effect_inserts (Fill x find index v) = true
effect_inserts _ = false

-- whether it asks for a new key
abbrev pub effect_asks_for_new : {K : Type 0} → Order K → Entries K → Effect K → Bool
effect_asks_for_new order l (Insert k given reports) = not (has_key order l k)
effect_asks_for_new order l (Keep k v) = not (has_key order l k)
effect_asks_for_new order l (Fill x find index v) = lacks order l (find l)
effect_asks_for_new order l _ = false

-- The pieces of the entry that it would insert, by those of a key. Keys are filled only where each has as
-- many pieces.
abbrev pub effect_pieces : {K : Type 0} → (K → ℕ) → Effect K → ℕ
effect_pieces size (Insert k given reports) = size k
effect_pieces size (Keep k v) = size k
effect_pieces size (Fill x find index v) = size x
effect_pieces size _ = 0

-- ---- the calls of each kind

-- the least entry from x on, if its index is at most k
abbrev pub first_up_to : Entries ℕ → ℕ → ℕ → Option (ℕ × ℕ)
first_up_to l x k = option_and_then (λ e. if nat_le e.0 k then Some e else None) (first word_order l x)

-- what a call of a set does: its values are 0
abbrev pub one_effect : OneCall → Effect ℕ
one_effect (one.Set x) = Insert x Nothing ReportsNew
one_effect (one.Unset x) = Remove x
one_effect (one.Test x) = Ask (λ l. Yes (has_key word_order l x))
one_effect (one.Count a b) = Ask (λ l. Number (count l a b))
one_effect (one.ByCount n) = Ask (λ l. Index (nth l n))
one_effect (one.First x) = Ask (λ l. Index (first word_order l x))
one_effect (one.Next x) = Ask (λ l. Index (next word_order l x))
one_effect (one.Last x) = Ask (λ l. Index (last word_order l x))
one_effect (one.Prev x) = Ask (λ l. Index (prev word_order l x))
one_effect (one.FirstEmpty x) = Ask (λ l. Absent (first_empty l x))
one_effect (one.NextEmpty x) = Ask (λ l. Absent (next_empty l x))
one_effect (one.LastEmpty x) = Ask (λ l. Absent (last_empty l x))
one_effect (one.PrevEmpty x) = Ask (λ l. Absent (prev_empty l x))
one_effect (one.Fill x) = Fill x (λ l. first_empty l x) (λ i. i) 0
one_effect (one.Cut x k n) = Cut (λ l. first_up_to l x k) n
one_effect (one.Pop x k) = Pop (λ l. first_up_to l x k) (λ e. AnIndex e.0) NoIndex
one_effect (one.Walk search x n) = Ask (λ l. Listed (map index_words (walk_indexes l search x n)))
one_effect (one.WalkEmpty search x n) = Ask (λ l. Listed (map index_words (walk_empty l search x n)))
one_effect one.Free = Free

-- what a call of a JudyL does
abbrev pub long_effect : LongCall → Effect ℕ
long_effect (long.Insert k given) = Insert k given ReportsValue
long_effect (long.Keep k v) = Keep k v
long_effect (long.Exchange k old new) = Exchange k old new
long_effect (long.Delete k) = Remove k
long_effect (long.Take k) = Take k
long_effect (long.DeleteIf k v) = RemoveIf k v
long_effect (long.Get k) = Ask (λ l. ValueOf (value_of word_order l k))
long_effect (long.Count a b) = Ask (λ l. Number (count l a b))
long_effect (long.ByCount n) = Ask (λ l. ValueAt (nth l n))
long_effect (long.First x) = Ask (λ l. ValueAt (first word_order l x))
long_effect (long.Next x) = Ask (λ l. ValueAt (next word_order l x))
long_effect (long.Last x) = Ask (λ l. ValueAt (last word_order l x))
long_effect (long.Prev x) = Ask (λ l. ValueAt (prev word_order l x))
long_effect (long.FirstEmpty x) = Ask (λ l. Absent (first_empty l x))
long_effect (long.NextEmpty x) = Ask (λ l. Absent (next_empty l x))
long_effect (long.LastEmpty x) = Ask (λ l. Absent (last_empty l x))
long_effect (long.PrevEmpty x) = Ask (λ l. Absent (prev_empty l x))
long_effect (long.Fill x v) = Fill x (λ l. first_empty l x) (λ i. i) v
long_effect (long.Cut x k n) = Cut (λ l. first_up_to l x k) n
long_effect (long.Pop x k) = Pop (λ l. first_up_to l x k) (λ e. AnEntry e.1 e.0) NoEntry
long_effect (long.Walk search x n) = Ask (λ l. Listed (map entry_words (walk word_order l search x n)))
long_effect (long.WalkEmpty search x n) = Ask (λ l. Listed (map index_words (walk_empty l search x n)))
long_effect long.Free = Free

-- what a call of a JudySL does
abbrev pub string_effect : StrCall → Effect (List ℕ)
string_effect (str.Insert k given) = Insert k given ReportsValue
string_effect (str.Keep k v) = Keep k v
string_effect (str.Exchange k old new) = Exchange k old new
string_effect (str.Delete k) = Remove k
string_effect (str.Take k) = Take k
string_effect (str.DeleteIf k v) = RemoveIf k v
string_effect (str.Get k) = Ask (λ l. ValueOf (value_of string_order l k))
string_effect (str.First x) = Ask (λ l. ValueKey (first string_order l x))
string_effect (str.Next x) = Ask (λ l. ValueKey (next string_order l x))
string_effect (str.Last x) = Ask (λ l. ValueKey (last string_order l x))
string_effect (str.Prev x) = Ask (λ l. ValueKey (prev string_order l x))
string_effect (str.Pop x) = Pop (λ l. first string_order l x) (λ e. AString e.1 e.0) NoEntry
string_effect (str.Walk search x n) = Ask (λ l. Listed (map key_words (walk string_order l search x n)))
string_effect str.Free = Free

-- what a call of a JudyHS does
abbrev pub bytes_effect : BytesCall → Effect (List ℕ)
bytes_effect (bytes.Insert k given) = Insert k given ReportsValue
bytes_effect (bytes.Keep k v) = Keep k v
bytes_effect (bytes.Exchange k old new) = Exchange k old new
bytes_effect (bytes.Delete k) = Remove k
bytes_effect (bytes.Take k) = Take k
bytes_effect (bytes.DeleteIf k v) = RemoveIf k v
bytes_effect (bytes.Get k) = Ask (λ l. ValueOf (value_of string_order l k))
bytes_effect (bytes.First n) = Ask (λ l. Listed (map key_words (walk_bytes l [] n)))
bytes_effect (bytes.Next k n) = Ask (λ l. Listed (map key_words (walk_bytes l (hashed_key k) n)))
bytes_effect bytes.Free = Free

-- a call of each kind: its reply, and the entries afterwards
abbrev pub one_step : Bool → Entries ℕ → OneCall → Reply × Entries ℕ
one_step room l c = effect_step word_order room l (one_effect c)

abbrev pub long_step : Bool → Entries ℕ → LongCall → Reply × Entries ℕ
long_step room l c = effect_step word_order room l (long_effect c)

abbrev pub string_step : Bool → Entries (List ℕ) → StrCall → Reply × Entries (List ℕ)
string_step room l c = effect_step string_order room l (string_effect c)

abbrev pub bytes_step : Bool → Entries (List ℕ) → BytesCall → Reply × Entries (List ℕ)
bytes_step room l c = effect_step string_order room l (bytes_effect c)

-- whether the call may change its array
abbrev pub one_changes : OneCall → Bool
one_changes c = effect_changes (one_effect c)

abbrev pub long_changes : LongCall → Bool
long_changes c = effect_changes (long_effect c)

abbrev pub string_changes : StrCall → Bool
string_changes c = effect_changes (string_effect c)

abbrev pub bytes_changes : BytesCall → Bool
bytes_changes c = effect_changes (bytes_effect c)

-- whether the call asks for a new key
abbrev pub one_asks_for_new : Entries ℕ → OneCall → Bool
one_asks_for_new l c = effect_asks_for_new word_order l (one_effect c)

abbrev pub long_asks_for_new : Entries ℕ → LongCall → Bool
long_asks_for_new l c = effect_asks_for_new word_order l (long_effect c)

abbrev pub string_asks_for_new : Entries (List ℕ) → StrCall → Bool
string_asks_for_new l c = effect_asks_for_new string_order l (string_effect c)

abbrev pub bytes_asks_for_new : Entries (List ℕ) → BytesCall → Bool
bytes_asks_for_new l c = effect_asks_for_new string_order l (bytes_effect c)

-- ---- a call of a tenant

-- whether the call may change an array
abbrev pub changes : Call → Bool
changes (One name c) = one_changes c
changes (Long name c) = long_changes c
changes (Str name c) = string_changes c
changes (Bytes name c) = bytes_changes c
changes (Intersect name other i n) = false
changes (Names from n) = false
changes Used = false

-- whether the right forbids the call
abbrev pub is_read_only : Right → Call → Bool
is_read_only Look call = changes call
is_read_only Frozen call = changes call
is_read_only Change call = false

-- the reply to a call that the right forbids; the right to change forbids none
abbrev pub refusal_of : Right → Reply
refusal_of Look = reply.ReadOnly
refusal_of Frozen = reply.Frozen
refusal_of Change = reply.ReadOnly

-- whether the call asks for a new entry; only a right to change allows this
abbrev pub asks_for_new : Right → State → Call → Bool
asks_for_new Look s call = false
asks_for_new Frozen s call = false
asks_for_new Change s (One name c) = one_asks_for_new (content_of s.one name) c
asks_for_new Change s (Long name c) = long_asks_for_new (content_of s.long name) c
asks_for_new Change s (Str name c) = string_asks_for_new (content_of s.string name) c
asks_for_new Change s (Bytes name c) = bytes_asks_for_new (content_of s.bytes name) c
asks_for_new Change s (Intersect name other i n) = false
asks_for_new Change s (Names from n) = false
asks_for_new Change s Used = false

-- the pieces of the entry that a call would insert
abbrev pub new_pieces : Call → ℕ
new_pieces (One name c) = effect_pieces word_pieces (one_effect c)
new_pieces (Long name c) = effect_pieces word_pieces (long_effect c)
new_pieces (Str name c) = effect_pieces string_pieces (string_effect c)
new_pieces (Bytes name c) = effect_pieces string_pieces (bytes_effect c)
new_pieces (Intersect name other i n) = 0
new_pieces (Names from n) = 0
new_pieces Used = 0

-- whether the call may insert a key
abbrev pub inserts : Call → Bool
inserts (One name c) = effect_inserts (one_effect c)
inserts (Long name c) = effect_inserts (long_effect c)
inserts (Str name c) = effect_inserts (string_effect c)
inserts (Bytes name c) = effect_inserts (bytes_effect c)
inserts (Intersect name other i n) = false
inserts (Names from n) = false
inserts Used = false

-- whether the quota has room for one more entry with the pieces of this call
abbrev pub has_room : Quota → State → Call → Bool
has_room quota s call = nat_lt (used s) quota.entries && nat_le (pieces s + new_pieces call) quota.pieces

-- the reply to a call that the right allows, and the tenant's arrays afterwards
abbrev pub allowed_step : Quota → State → Call → Reply × State
allowed_step quota s (One name c) =
    let (r, l) = one_step (has_room quota s (One name c)) (content_of s.one name) c in
    (r, record s { one = with_content s.one name l })
allowed_step quota s (Long name c) =
    let (r, l) = long_step (has_room quota s (Long name c)) (content_of s.long name) c in
    (r, record s { long = with_content s.long name l })
allowed_step quota s (Str name c) =
    let (r, l) = string_step (has_room quota s (Str name c)) (content_of s.string name) c in
    (r, record s { string = with_content s.string name l })
allowed_step quota s (Bytes name c) =
    let (r, l) = bytes_step (has_room quota s (Bytes name c)) (content_of s.bytes name) c in
    (r, record s { bytes = with_content s.bytes name l })
allowed_step quota s (Intersect name other i n) =
    (intersection_reply (intersect (content_of s.one name) (content_of s.one other) i n), s)
allowed_step quota s (Names from n) = (names_reply (array_counts s) from n, s)
allowed_step quota s Used = (reply.Used (used s) quota.entries (pieces s) quota.pieces, s)

-- the reply to a call, and the tenant's arrays afterwards
abbrev pub step : Right → Quota → State → Call → Reply × State
step right quota s call = if is_read_only right call then (refusal_of right, s) else allowed_step quota s call

-- ---- calls in a row

-- a call, with the right under which it is made
pub record Attempt : Type 0 where
  pub right : Right
  pub call : Call

-- the reply to the attempt, and the tenant's arrays afterwards
abbrev pub attempt_step : Quota → State → Attempt → Reply × State
attempt_step quota s a = step a.right quota s a.call

-- the calls, each made under the right
abbrev pub under : Right → List Call → List Attempt
under right calls = map (λ call. record { right = right; call = call }) calls

-- the replies to the attempts, one after another
abbrev pub replies_alone : Quota → State → List Attempt → List Reply
replies_alone quota s [] = []
replies_alone quota s (a ∷ more) = let (r, t) = attempt_step quota s a in r ∷ replies_alone quota t more

-- the tenant's arrays after them
abbrev pub state_alone : Quota → State → List Attempt → State
state_alone quota s [] = s
state_alone quota s (a ∷ more) = state_alone quota (attempt_step quota s a).1 more

-- both
abbrev pub alone : Quota → State → List Attempt → List Reply × State
alone quota s attempts = (replies_alone quota s attempts, state_alone quota s attempts)

-- answering a ++ b is answering a, then b from the resulting state
abbrev pub AloneGoesOn : Type 0
AloneGoesOn = (quota : Quota) (s : State) (attempts more : List Attempt) → let mid = state_alone quota s attempts in
    (replies_alone quota s (attempts ++ more) ≡ replies_alone quota s attempts ++ replies_alone quota mid more)
    × (state_alone quota s (attempts ++ more) ≡ state_alone quota mid more)
