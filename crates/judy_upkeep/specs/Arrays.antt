-- The first array of a tenant, as the reply to `NAMES 1` tells it.
--     array_in fields               the array that these fields name: its kind, its name, and a number
--     array_at reply                the array that a reply names, None if there is none
--     TellsFirst .. result old new  a tenant's speaker asked for the first array, and this came of it
--     HasTold .. result old new     the same, or nothing was asked
use Rattle.std.specs.Prelude.{◌≡◌, ◌⊎◌, ℕ, zero, suc, List, [], ◌∷◌, if◌then◌else◌, Option, Some, None, option_and_then, Result, Ok, Err, slice_get}
use Rattle.judy_model.specs.ArrayLists.{kind_named}
use Rattle.judy_model.specs.Grammar.{fields_of, is_name, number_of_field}
use Rattle.judy_model.specs.Speakers.{Speaker}
use Rattle.judy_model.specs.declared.calls.ArraysFrom.TheVariants as from
use Rattle.judy_model.specs.declared.calls.Call.{Call}
use Rattle.judy_model.specs.declared.calls.Call.TheVariants as calls
use Rattle.judy_model.specs.declared.commands.Kind.{Kind}
use Rattle.judy_model.specs.declared.replies.Reply.{Reply}
use Rattle.judy_model.specs.declared.replies.Reply.TheVariants as reply
use Rattle.judy_protocol.specs.Services.{Made}
use Rattle.judy_recovery.specs.declared.faults.Reason.{Reason}
use Rattle.judy_recovery.specs.declared.faults.Reason.TheVariants as reason
use Rattle.judy_upkeep.specs.declared.kinds.Array.{Array}

-- the array of this kind, if these bytes are a name
abbrev pub array_named : Kind → List ℕ → Option Array
array_named kind name = if is_name name then Some (record { kind = kind; name = name }) else None

-- the array that these fields name: its kind, its name, and how many entries it has
abbrev pub array_in : List (List ℕ) → Option Array
array_in (word ∷ name ∷ count ∷ []) =
    option_and_then (λ n. option_and_then (λ kind. array_named kind name) (kind_named word)) (number_of_field count)
array_in _ = None

-- the array of a list, by how many it has, and this one
abbrev pub listed_array : ℕ → Option Array → Result (Option Array) Reason
listed_array zero found = Ok None
listed_array (suc n) (Some array) = Ok (Some array)
listed_array (suc n) None = Err reason.Record

-- the array that a reply names, None if there is none
abbrev pub array_at : Reply → Result (Option Array) Reason
array_at (reply.Entries count text) = listed_array count (array_in (fields_of text))
array_at reply.Memory = Err reason.Memory
array_at other = Err reason.Record

-- the call of the line `NAMES 1`
abbrev pub first_call : Call
first_call = calls.Names from.First 1

-- A speaker of this tenant asked for the first array that has entries, and this came of it.
pub record TellsFirst {S K : Type 0} (who : K → Speaker) (made : Made S) (speakers : List K) (tenant : ℕ)
    (result : Result (Option Array) Reason) (old new : S) : Type 0 where
  pub speaker : K
  pub speaks : slice_get speakers tenant ≡ Some speaker
  pub reply : Reply
  pub makes : made old (record { speaker = who speaker; call = first_call }) reply new
  pub comes : array_at reply ≡ result

-- The same. If it fails, it may not have been asked for.
abbrev pub HasTold : {S K : Type 0} → (K → Speaker) → Made S → List K → ℕ → Result (Option Array) Reason → S → S → Type 0
HasTold who made speakers tenant (Ok found) old new = TellsFirst who made speakers tenant (Ok found) old new
HasTold who made speakers tenant (Err why) old new = TellsFirst who made speakers tenant (Err why) old new ⊎ (new ≡ old)
