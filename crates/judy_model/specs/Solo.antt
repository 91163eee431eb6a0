-- A tenant among others: its replies, and the replies that it would get alone.
use Rattle.std.specs.Prelude.{◌≡◌, ◌↔◌, ◌<◌, ◌≤◌, ◌+◌, Bool, true, false, not, List, [], ◌∷◌, ◌++◌, map, filter, IsTrue, MatchBool}
use Rattle.judy_model.specs.declared.calls.Call.{Call}
use Rattle.judy_model.specs.declared.quotas.Quota.{Quota}
use Rattle.judy_model.specs.declared.quotas.Right.{Right}
use Rattle.judy_model.specs.declared.replies.Reply.{Reply}
use Rattle.judy_model.specs.declared.replies.Reply.TheVariants.{Memory}
use Rattle.judy_model.specs.Tenant.{State, Attempt, step, attempt_step, used, pieces, new_pieces, asks_for_new, has_room, replies_alone, state_alone}

-- attempts with their replies, in order
abbrev pub Exchanges : Type 0
Exchanges = List (Attempt × Reply)

-- the attempts
abbrev pub attempts_of : Exchanges → List Attempt
attempts_of pairs = map (λ p. p.0) pairs

-- the replies
abbrev pub replies_of : Exchanges → List Reply
replies_of pairs = map (λ p. p.1) pairs

-- whether a call was refused for memory
abbrev pub is_memory : Reply → Bool
is_memory Memory = true
is_memory _ = false

-- a tenant alone never gets `ERR MEMORY`
abbrev pub StepHasMemory : Type 0
StepHasMemory = (right : Right) (quota : Quota) (s : State) (call : Call) → is_memory (step right quota s call).0 ≡ false

-- the exchanges that are not refusals for memory
abbrev pub kept : Exchanges → Exchanges
kept pairs = filter (λ p. not (is_memory p.1)) pairs

-- for each exchange, whether it is a refusal for memory
abbrev pub refusals : Exchanges → List Bool
refusals pairs = map (λ p. is_memory p.1) pairs

-- the call asks for a new entry, and the quota has room for it
abbrev pub MayLackMemory : Quota → State → Attempt → Type 0
MayLackMemory quota s a = IsTrue (asks_for_new a.right s a.call) × IsTrue (has_room quota s a.call)

-- one call: it is answered as if the tenant were alone, or refused for memory; a refusal changes
-- nothing
abbrev pub IsAnswered : Quota → State → Attempt → Reply → State → Type 0
IsAnswered quota s a reply new =
    MatchBool (is_memory reply) (MayLackMemory quota s a × (new ≡ s)) (attempt_step quota s a ≡ (reply, new))

-- `ERR MEMORY` answers only a call that asks for a new entry within the quota of entries and
-- pieces; then nothing changes
abbrev pub MemoryIsForNew : Type 0
MemoryIsForNew = (quota : Quota) (s : State) (a : Attempt) (new : State) → IsAnswered quota s a Memory new
    ↔ (IsTrue (asks_for_new a.right s a.call) × (used s < quota.entries) × (pieces s + new_pieces a.call ≤ quota.pieces) × (new ≡ s))

-- the calls are answered one after another in this way, from the state s to the state last
abbrev pub AreAnswered : Quota → State → Exchanges → State → Type 0
AreAnswered quota s [] last = last ≡ s
AreAnswered quota s (p ∷ ps) last = (mid : State) × IsAnswered quota s p.0 p.1 mid × AreAnswered quota mid ps last

-- From the state s the calls are answered as if the tenant were alone and the calls refused for
-- memory had not been made. The state after them is last. A refusal for memory answers only a call
-- that asks for a new entry within the quota.
pub record IsSolo (quota : Quota) (s : State) (pairs : Exchanges) (last : State) : Type 0 where
  pub replies : replies_alone quota s (attempts_of (kept pairs)) ≡ replies_of (kept pairs)
  pub state : state_alone quota s (attempts_of (kept pairs)) ≡ last
  pub refused : (before after : Exchanges) (a : Attempt) → pairs ≡ before ++ (a, Memory) ∷ after
      → MayLackMemory quota (state_alone quota s (attempts_of (kept before))) a

-- If quota, state, calls and the places of refusals for memory are equal, the replies and the last
-- state are equal, whatever else the two services hold and do.
abbrev pub SoloIsDetermined : Type 0
SoloIsDetermined = (quota : Quota) (s : State) (pairs others : Exchanges) (last end : State)
    → IsSolo quota s pairs last → IsSolo quota s others end
    → attempts_of pairs ≡ attempts_of others → refusals pairs ≡ refusals others
    → (pairs ≡ others) × (last ≡ end)

-- the statement about the whole run and the statement call by call are equivalent
abbrev pub SoloIsStepwise : Type 0
SoloIsStepwise = (quota : Quota) (s : State) (pairs : Exchanges) (last : State) → IsSolo quota s pairs last ↔ AreAnswered quota s pairs last

-- two consecutive runs are one run, and a run can be cut anywhere
abbrev pub SoloGoesOn : Type 0
SoloGoesOn = (quota : Quota) (s : State) (pairs more : Exchanges) (last : State)
    → IsSolo quota s (pairs ++ more) last ↔ ((mid : State) × IsSolo quota s pairs mid × IsSolo quota mid more last)
