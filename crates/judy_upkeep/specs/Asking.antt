-- What a service is asked by a line, and what comes of it.
--     entry_in fields                    the value and the key of one entry
--     came_at reply                      what comes of a call, by its reply
--     key_in reply last                  the key that was found last, after this reply
--     Gives .. line result old new       a tenant's speaker made the call of this line, and this came of it
--     HasAsked .. result last .. new     the same, or the call was not made
--     HasChanged .. result old new       the same of a call that may change an array
use Rattle.std.specs.Prelude.{◌≡◌, ◌⊎◌, ℕ, zero, suc, true, false, List, [], ◌∷◌, Option, Some, None, option_map, option_and_then, Result, Ok, Err, slice_get}
use Rattle.judy_model.specs.Grammar.{fields_of, key_of, number_of_field}
use Rattle.judy_model.specs.Reading.{request_of}
use Rattle.judy_model.specs.Speakers.{Speaker}
use Rattle.judy_model.specs.Tenant.{changes}
use Rattle.judy_model.specs.declared.calls.Call.{Call}
use Rattle.judy_model.specs.declared.replies.Reply.{Reply}
use Rattle.judy_model.specs.declared.replies.Reply.TheVariants as reply
use Rattle.judy_model.specs.declared.requests.Line.TheVariants as request
use Rattle.judy_protocol.specs.Services.{Made}
use Rattle.judy_recovery.specs.declared.faults.Reason.{Reason}
use Rattle.judy_recovery.specs.declared.faults.Reason.TheVariants as reason
use Rattle.judy_upkeep.specs.declared.asking.Came.{Came}
use Rattle.judy_upkeep.specs.declared.asking.Came.TheVariants as what

-- the value and the key of one entry, if these are its fields
abbrev pub entry_in : List (List ℕ) → Option (ℕ × List ℕ)
entry_in (value ∷ key ∷ []) = option_and_then (λ n. option_map (λ bytes. (n, bytes)) (key_of key)) (number_of_field value)
entry_in _ = None

-- what comes of a call that asks for one entry, by how many its reply has, and this one
abbrev pub listed_came : ℕ → Option (ℕ × List ℕ) → Result Came Reason
listed_came zero found = Ok what.Nothing
listed_came (suc n) (Some e) = Ok (what.AtKey e.0)
listed_came (suc n) None = Err reason.Record

-- what comes of a call, by its reply
abbrev pub came_at : Reply → Result Came Reason
came_at (reply.Int true) = Ok (what.Value 0)
came_at (reply.Int false) = Ok what.Nothing
came_at (reply.Value value) = Ok (what.Value value)
came_at reply.Null = Ok what.Nothing
came_at (reply.Index index) = Ok (what.At index 0)
came_at (reply.Count count) = Ok (what.Count count)
came_at (reply.ValueAt value index) = Ok (what.At index value)
came_at (reply.ValueKey value key) = Ok (what.AtKey value)
came_at (reply.Intersection next k text) = Err reason.Record
came_at (reply.Used entries quota pieces most) = Err reason.Record
came_at (reply.Entries count text) = listed_came count (entry_in (fields_of text))
came_at reply.Full = Err reason.Full
came_at reply.ReadOnly = Err reason.Full
came_at reply.Frozen = Err reason.Full
came_at reply.Memory = Err reason.Memory

-- the key that was found last: this one, or else the one before
abbrev pub key_or : List ℕ → Option (ℕ × List ℕ) → List ℕ
key_or last (Some e) = e.1
key_or last None = last

-- the key that was found last: that of this reply, if it shows one, and else the one before
abbrev pub key_in : Reply → List ℕ → List ℕ
key_in (reply.ValueKey value key) last = key
key_in (reply.Entries count text) last = key_or last (entry_in (fields_of text))
key_in other last = last

-- A speaker of this tenant made the call that a line asks for, and this came of it.
pub record Gives {S K : Type 0} (who : K → Speaker) (made : Made S) (speakers : List K) (tenant : ℕ) (line : List ℕ)
    (result : Result Came Reason) (old new : S) : Type 0 where
  pub speaker : K
  pub speaks : slice_get speakers tenant ≡ Some speaker
  pub call : Call
  pub asks : request_of line ≡ Some (request.Call call)
  pub reply : Reply
  pub makes : made old (record { speaker = who speaker; call = call }) reply new
  pub comes : came_at reply ≡ result

-- the same, and this is the key that was found last afterwards
pub record Finds {S K : Type 0} (who : K → Speaker) (made : Made S) (speakers : List K) (tenant : ℕ) (line : List ℕ)
    (result : Result Came Reason) (last last' : List ℕ) (old new : S) : Type 0 where
  pub given : Gives who made speakers tenant line result old new
  pub key : last' ≡ key_in given.reply last

-- The call of a line was made. If it fails, it may not have been made.
abbrev pub HasAsked : {S K : Type 0} → (K → Speaker) → Made S → List K → ℕ → List ℕ
    → Result Came Reason → List ℕ → List ℕ → S → S → Type 0
HasAsked who made speakers tenant line (Ok came) last last' old new = Finds who made speakers tenant line (Ok came) last last' old new
HasAsked who made speakers tenant line (Err why) last last' old new =
    Finds who made speakers tenant line (Err why) last last' old new ⊎ ((last' ≡ last) × (new ≡ old))

-- The call of a line was made, and it is one that may change an array.
pub record Alters {S K : Type 0} (who : K → Speaker) (made : Made S) (speakers : List K) (tenant : ℕ) (line : List ℕ)
    (old new : S) : Type 0 where
  pub came : Came
  pub given : Gives who made speakers tenant line (Ok came) old new
  pub alters : changes given.call ≡ true

-- The same. If it fails, it may not have been made.
abbrev pub HasChanged : {S K T : Type 0} → (K → Speaker) → Made S → List K → ℕ → List ℕ → Result T Reason → S → S → Type 0
HasChanged who made speakers tenant line (Ok done) old new = Alters who made speakers tenant line old new
HasChanged who made speakers tenant line (Err why) old new = Gives who made speakers tenant line (Err why) old new ⊎ (new ≡ old)
