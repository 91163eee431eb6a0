-- What came of a line.
--     spoken     the speaker of a tenant
--     gives      a speaker made its call
--     asked      the same, by what came of it
--     told       the same of the first array
--     altered    a call that may change an array, if it did not fail
--     map_ok     what follows from what holds if a call did not fail
--     if_ok      what holds anyhow
use Rattle.std.proofs.Common.{◌≡◌, ◌<◌, ℕ, List, Option, Some, Result, Ok, Err, sym, ◌∙◌, ap, subst, inl, length, get_or, slice_get}
use Rattle.std.specs.Prelude.{OnOk}
use Rattle.std.proofs.lemmas.Option.{slice_get-get_or}
use Rattle.judy_model.specs.Reading.{request_of}
use Rattle.judy_model.specs.Speakers.{Speaker}
use Rattle.judy_model.specs.declared.calls.Call.{Call}
use Rattle.judy_model.specs.declared.replies.Reply.{Reply}
use Rattle.judy_model.specs.declared.requests.Line.TheVariants as request
use Rattle.judy_protocol.specs.Services.{Made}
use Rattle.judy_recovery.specs.declared.faults.Reason.{Reason}
use Rattle.judy_upkeep.specs.Arrays.{HasTold, array_at, first_call}
use Rattle.judy_upkeep.specs.Asking.{Alters, Gives, HasAsked, HasChanged, came_at, key_in}
use Rattle.judy_upkeep.specs.declared.asking.Came.{Came}
use Rattle.judy_upkeep.specs.declared.kinds.Array.{Array}

pub spoken : {K : Type 0} (items xs : List K) (i : ℕ) (x : K) → xs ≡ items → i < length xs → x ≡ get_or xs i x → slice_get items i ≡ Some x
spoken items xs i x same within is = subst (λ v. slice_get v i ≡ Some x) same (slice_get-get_or xs i x within ∙ ap Some (sym is))

abbrev pub gives : {S K : Type 0} (who : K → Speaker) (made : Made S) (speakers : List K) (tenant : ℕ) (line : List ℕ) (result : Result Came Reason)
    (old new : S) (speaker : K) (call : Call) (reply : Reply) → slice_get speakers tenant ≡ Some speaker
    → request_of line ≡ Some (request.Call call) → made old (record { speaker = who speaker; call = call }) reply new
    → result ≡ came_at reply → Gives who made speakers tenant line result old new
gives who made speakers tenant line result old new speaker call reply speaks asks makes comes =
    record { speaker = speaker; speaks = speaks; call = call; asks = asks; reply = reply; makes = makes; comes = sym comes }

pub asked : {S K : Type 0} (who : K → Speaker) (made : Made S) (speakers : List K) (tenant : ℕ) (line : List ℕ) (result : Result Came Reason)
    (last last' : List ℕ) (old new : S) → (given : Gives who made speakers tenant line result old new) → last' ≡ key_in given.reply last
    → HasAsked who made speakers tenant line result last last' old new
asked who made speakers tenant line (Ok came) last last' old new given key = record { given = given; key = key }
asked who made speakers tenant line (Err why) last last' old new given key = inl (record { given = given; key = key })

pub told : {S K : Type 0} (who : K → Speaker) (made : Made S) (speakers : List K) (tenant : ℕ) (result : Result (Option Array) Reason)
    (old new : S) (speaker : K) (reply : Reply) → slice_get speakers tenant ≡ Some speaker
    → made old (record { speaker = who speaker; call = first_call }) reply new → result ≡ array_at reply
    → HasTold who made speakers tenant result old new
told who made speakers tenant (Ok found) old new speaker reply speaks makes comes =
    record { speaker = speaker; speaks = speaks; reply = reply; makes = makes; comes = sym comes }
told who made speakers tenant (Err why) old new speaker reply speaks makes comes =
    inl (record { speaker = speaker; speaks = speaks; reply = reply; makes = makes; comes = sym comes })

-- ---- calls that did not fail

-- what follows from what holds if a call did not fail
pub map_ok : {T E P Q : Type 0} (r : Result T E) → (P → Q) → OnOk r P → OnOk r Q
map_ok (Ok done) f p = f p
map_ok (Err why) f p = tt

-- what holds anyhow
pub if_ok : {T E P : Type 0} (r : Result T E) → P → OnOk r P
if_ok (Ok done) p = p
if_ok (Err why) p = tt

-- a call that may change an array, if it did not fail
pub altered : {S K T : Type 0} (who : K → Speaker) (made : Made S) (speakers : List K) (tenant : ℕ) (line : List ℕ) (result : Result T Reason)
    (old new : S) → HasChanged who made speakers tenant line result old new → OnOk result (Alters who made speakers tenant line old new)
altered who made speakers tenant line (Ok done) old new changed = changed
altered who made speakers tenant line (Err why) old new changed = tt
