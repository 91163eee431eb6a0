-- Many calls of a service, one after another.
--     told_event e                  a call and its speaker
--     is_answerable tenants e       the service can answer it
--     AreCallsOf old answered new   each call changes the service from its state after the call
--                                   before
--     AreForNames old answered new  so it is, and each `ERR MEMORY` is for a name without a place
--     NoneForMemory answered            no call was refused for memory
--     memories replies              how many replies are `ERR MEMORY`
use Rattle.std.specs.Prelude.{◌≡◌, ◌+◌, ◌<◌, ◌-◌, ◌^◌, ℕ, Bool, cond, ◌&&◌, nat_lt, List, [], ◌∷◌, length, IsTrue, false}
use Rattle.judy_model.specs.declared.replies.Reply.{Reply}
use Rattle.judy_model.specs.Solo.{is_memory}
use Rattle.judy_model.specs.Speakers.{Event as Told}
use Rattle.judy_kinds.specs.Calls.{has_string}
use Rattle.judy_table.specs.declared.tenant.Tenant.{Tenant}
use Rattle.judy_table.specs.Shown.{seen}
use Rattle.judy_tenants.specs.declared.replay.Event.{Event}
use Rattle.judy_tenants.specs.Held.{Held, IsCallOf, IsUnplaced}

-- a call and its speaker, as definitions see them
abbrev pub told_event : Event → Told
told_event e = record { speaker = seen e.speaker; call = e.call }

-- the speaker is a tenant of the table, and the key of a JudySL call is a string
abbrev pub is_answerable : List Tenant → Event → Bool
is_answerable tenants e = nat_lt e.speaker.tenant (length tenants) && has_string e.call

-- each call changes the service from its state after the call before
abbrev pub AreCallsOf : Held → List (Told × Reply) → Held → Type 0
AreCallsOf old [] new = new ≡ old
AreCallsOf old (p ∷ ps) new = (mid : Held) × IsCallOf old p.0 p.1 mid × AreCallsOf mid ps new

-- each call changes the service from its state after the call before; each reply `ERR MEMORY` is for
-- the name of an array without entries, which the directory had no place for
abbrev pub AreForNames : Held → List (Told × Reply) → Held → Type 0
AreForNames old [] new = new ≡ old
AreForNames old (p ∷ ps) new =
    (mid : Held) × IsCallOf old p.0 p.1 mid × (IsTrue (is_memory p.1) → IsUnplaced p.0 old mid) × AreForNames mid ps new

-- no call was refused for memory
abbrev pub NoneForMemory : List (Told × Reply) → Type 0
NoneForMemory [] = Unit {0}
NoneForMemory (p ∷ ps) = (is_memory p.1 ≡ false) × NoneForMemory ps

-- how many replies are `ERR MEMORY`
abbrev pub memories : List Reply → ℕ
memories [] = 0
memories (r ∷ rs) = cond (is_memory r) 1 0 + memories rs

-- Each reply `ERR MEMORY` adds 1 to the number of refused requests. Counters saturate; the
-- statement does not cover a saturated counter.
abbrev pub AreCounted : Held → List Reply → Held → Type 0
AreCounted old replies new = new.refusals < 2 ^ 64 - 1 → new.unplaced < 2 ^ 64 - 1
    → old.refusals + old.unplaced + memories replies ≡ new.refusals + new.unplaced
