-- Replies that say that a call left all arrays as they were.
--     keeps given shown       an insertion whose reply shows this value left the value that was there
--     leaves call reply       the reply says that the call changed nothing
--     UnchangedAreTold        after such a reply all arrays are as before
use Rattle.std.specs.Prelude.{◌≡◌, ℕ, Bool, true, false, not, ◌&&◌, ◌==◌, nat_lt}
use Rattle.judy_model.specs.declared.calls.Call.{Call}
use Rattle.judy_model.specs.declared.calls.Call.TheVariants.{One, Long, Str, Bytes, Intersect, Names, Used}
use Rattle.judy_model.specs.declared.calls.OneCall.{OneCall}
use Rattle.judy_model.specs.declared.calls.LongCall.{LongCall}
use Rattle.judy_model.specs.declared.calls.StrCall.{StrCall}
use Rattle.judy_model.specs.declared.calls.BytesCall.{BytesCall}
use Rattle.judy_model.specs.declared.calls.Given.{Given}
use Rattle.judy_model.specs.declared.calls.Given.TheVariants.{Nothing, Value, Plus}
use Rattle.judy_model.specs.declared.quotas.Quota.{Quota}
use Rattle.judy_model.specs.declared.quotas.Right.{Right}
use Rattle.judy_model.specs.declared.replies.Reply.{Reply}
use Rattle.judy_model.specs.declared.replies.Reply.TheVariants as reply
use Rattle.judy_model.specs.Tenant.Effect.{Insert, Keep, Exchange, Remove, Take, RemoveIf, Pop, Cut, Fill, Free, Ask}
use Rattle.judy_model.specs.Tenant.Reports.{ReportsNew, ReportsValue}
use Rattle.judy_model.specs.Tenant.{Effect, State, one_effect, long_effect, string_effect, bytes_effect, step}
use Rattle.judy_model.specs.WellFormed.{IsWellFormed}

-- Whether an insertion whose reply shows this value left the value that was there. The reply to a new
-- entry may show 0, so 0 never says so.
abbrev pub keeps : Given → ℕ → Bool
keeps Nothing shown = nat_lt 0 shown
keeps (Value v) shown = nat_lt 0 shown && v == shown
keeps (Plus n) shown = nat_lt 0 shown && n == 0

-- an insertion left the entry that was there
abbrev pub insertion_leaves : Given → Reply → Bool
insertion_leaves given (reply.Value shown) = keeps given shown
insertion_leaves given _ = false

-- a key was not new, not there to be removed, or not found
abbrev pub says_no : Reply → Bool
says_no (reply.Int new) = not new
says_no _ = false

-- the key was present
abbrev pub says_some : Reply → Bool
says_some (reply.Value v) = true
says_some _ = false

-- the key was absent
abbrev pub says_null : Reply → Bool
says_null reply.Null = true
says_null _ = false

-- the key was absent, or had another value
abbrev pub says_other : ℕ → Reply → Bool
says_other old (reply.Value v) = not (v == old)
says_other old reply.Null = true
says_other old _ = false

-- a search found no entry
abbrev pub says_nothing : Reply → Bool
says_nothing (reply.Int b) = not b
says_nothing reply.Null = true
says_nothing _ = false

-- there was no entry to be removed
abbrev pub says_none : Reply → Bool
says_none (reply.Count n) = n == 0
says_none _ = false

-- The reply says that a call that does this left its array. An insertion whose reply shows only whether the
-- key was new leaves a present one if it gives no value.
abbrev pub effect_leaves : {K : Type 0} → Effect K → Reply → Bool
effect_leaves (Insert k Nothing ReportsNew) r = says_no r
effect_leaves (Insert k given ReportsNew) r = false
effect_leaves (Insert k given ReportsValue) r = insertion_leaves given r
effect_leaves (Keep k v) r = says_some r
effect_leaves (Exchange k old new) r = says_other old r
effect_leaves (Remove k) r = says_no r
effect_leaves (Take k) r = says_null r
effect_leaves (RemoveIf k v) r = says_no r
effect_leaves (Pop find show lack) r = says_nothing r
effect_leaves (Cut find n) r = says_none r
effect_leaves (Fill x find index v) r = says_no r
effect_leaves Free r = says_none r
effect_leaves (Ask answer) r = false

-- a call of each kind
abbrev pub one_leaves : OneCall → Reply → Bool
one_leaves c r = effect_leaves (one_effect c) r

abbrev pub long_leaves : LongCall → Reply → Bool
long_leaves c r = effect_leaves (long_effect c) r

abbrev pub string_leaves : StrCall → Reply → Bool
string_leaves c r = effect_leaves (string_effect c) r

abbrev pub bytes_leaves : BytesCall → Reply → Bool
bytes_leaves c r = effect_leaves (bytes_effect c) r

-- Whether the reply says that the call changed nothing, of a call that may change arrays and was not
-- refused.
abbrev pub leaves : Call → Reply → Bool
leaves (One name c) r = one_leaves c r
leaves (Long name c) r = long_leaves c r
leaves (Str name c) r = string_leaves c r
leaves (Bytes name c) r = bytes_leaves c r
leaves (Intersect name other i n) r = false
leaves (Names from n) r = false
leaves Used r = false

-- well-formed arrays are as they were after a reply that says so, under any right and quota
abbrev pub UnchangedAreTold : Type 0
UnchangedAreTold = (right : Right) (quota : Quota) (s : State) (call : Call) → IsWellFormed s
    → leaves call (step right quota s call).0 ≡ true → (step right quota s call).1 ≡ s
