-- Many connections at once.
--     HasServedMany ..       the whole: each connection got its answers, and each tenant's replies are
--                            those that it would get alone
use Rattle.std.specs.Prelude.{◌≡◌, ◌⊎◌, ◌<◌, ◌≤◌, ◌+◌, ℕ, zero, suc, Option, Some, None, List, [], ◌∷◌, ◌++◌, false, true, is_some, length}
use Rattle.judy_journal.specs.Writes.{Writing}
use Rattle.judy_many.specs.Barred.{IsInquired}
use Rattle.judy_many.specs.Books.{Journal, opened}
use Rattle.judy_many.specs.Changes.{Chain, IsAlone, IsAloneFor}
use Rattle.judy_many.specs.declared.serve.Ending.{Ending}
use Rattle.judy_many.specs.declared.serve.Ending.TheVariants as ending
use Rattle.judy_many.specs.declared.serve.Limits.{Limits}
use Rattle.judy_many.specs.Endings.{IsCaused, lost_in, waits_in}
use Rattle.judy_many.specs.Journaling.{AreKept, AreSettled, Carries, IsFailure, MayKeep}
use Rattle.judy_many.specs.Lives.{IsPart, IsServed, Lives, View}
use Rattle.judy_many.specs.Nets.{Act, Acts, DidLog}
use Rattle.judy_many.specs.Others.{IsLimited}
use Rattle.judy_many.specs.Questions.{AreAsked, IsLastStage, MayFail, Stage, stage_since}
use Rattle.judy_many.specs.Rules.{Rules}
use Rattle.judy_many.specs.Shares.{AreCounted, HasShares}
use Rattle.judy_many.specs.Statuses.{Keeps, Lasts, Passes}
use Rattle.judy_many.specs.Stories.{AreRead, AreSingle, AreWithin, HasTurns, IsPhased, Phase, Share, Story, acts_in, came_in, closed_in, most, own, runs_in, turns_in, turns_since, writes_since}
use Rattle.judy_many.specs.Watches.{Alert, HasEach, IsAwake, Queued, unqueued}

-- this client is in this slot
abbrev pub At : {B : Type 0} → List (Option B) → ℕ → B → Type 0
At [] i b = ⊥
At (s ∷ slots) zero b = s ≡ Some b
At (s ∷ slots) (suc i) b = At slots i b

-- no slot has a client
abbrev pub AreFree : {B : Type 0} → List (Option B) → Type 0
AreFree [] = Unit {0}
AreFree (s ∷ slots) = (s ≡ None) × AreFree slots

-- how many slots have one
abbrev pub taken_by : {B : Type 0} → Option B → ℕ
taken_by None = 0
taken_by (Some b) = 1

abbrev pub taken : {B : Type 0} → List (Option B) → ℕ
taken [] = 0
taken (s ∷ slots) = taken_by s + taken slots

-- the client of this number is in a slot
pub record IsThere {B : Type 0} (view : B → View) (slots : List (Option B)) (n : ℕ) : Type 0 where
  pub i : ℕ
  pub b : B
  pub there : At slots i b
  pub is : (view b).number ≡ n

-- at each moment of a story at most so many connections are open
abbrev pub HasFew : ℕ → Story → Type 0
HasFew clients story = (p q : Story) → story ≡ p ++ q → came_in (acts_in p) ≤ closed_in (acts_in p) + clients

-- how often the server has waited; the journal with which it began, and the journal now, if there is one;
-- and where the answering of a question is
pub record Past : Type 0 where
  pub waits : ℕ
  pub began : Option Journal
  pub journal : Option Journal
  pub stage : Stage

-- at this stage
abbrev pub at_stage : Stage → Past → Past
at_stage stage past = record past { stage = stage }

-- nothing is asked
abbrev pub past_of : ℕ → Option Journal → Option Journal → Past
past_of waits began journal = record { waits = waits; began = began; journal = journal; stage = Stage.Unasked }

-- What holds of a story so far, whoever its connections are. In the first phase of a round nothing was
-- written since the server last waited. In the second, all records are kept.
pub record IsTold {B S : Type 0} (rules : Rules S) (limits : Limits) (first : S) (start : Acts) (phase : Phase) (lost : ℕ) (past : Past) (log : Acts) (slots : List (Option B)) (count : ℕ) (now : S) (story : Story) : Type 0 where
  pub logged : DidLog start (acts_in story) log
  pub run : Passes rules [] first story now
  pub lasts : Lasts rules (is_some limits.journal) first story now
  pub total : came_in (acts_in story) ≡ count
  pub capped : count ≤ limits.connections
  pub opened : came_in (acts_in story) ≡ closed_in (acts_in story) + taken slots
  pub sized : length slots ≤ limits.clients
  pub small : length slots ≤ 1024
  pub few : HasFew limits.clients story
  pub within : AreWithin limits (acts_in story)
  pub phases : IsPhased false story
  pub quiet : phase ≡ Phase.Reads → writes_since false story ≡ false
  pub fair : HasTurns story
  pub shared : HasShares limits.share story
  pub unlost : lost_in (acts_in story) ≡ lost
  pub waited : waits_in (acts_in story) ≡ past.waits
  pub reads : AreRead limits None story
  pub keeps : Carries past.began story past.journal
  pub allowed : MayKeep limits past.journal
  pub settled : phase ≡ Phase.Writes → AreSettled past.journal
  pub awake : IsAwake story
  pub each : HasEach limits.share story
  pub limited : IsLimited limits.tenant_clients [] story
  pub inquired : IsInquired (is_some limits.journal) [] story
  pub asked : AreAsked Stage.Unasked story
  pub stage : stage_since Stage.Unasked story ≡ past.stage
  pub single : limits.clients ≡ 1 → AreSingle story

-- So far this happened. Each client in a slot is one of its own number, below the count of connections,
-- and every connection is served so far. Each connection that came is in a slot or was closed. Those
-- whose slots had no turn in this phase may have one. In the first phase of a round the loop has counted who was heard.
pub record Crowd {B S : Type 0} (view : B → View) (rules : Rules S) (limits : Limits) (first : S) (start : Acts) (phase : Phase) (queued : Queued) (past : Past) (log : Acts) (slots : List (Option B)) (count : ℕ) (now : S) : Type 0 where
  pub story : Story
  pub is_told : IsTold rules limits first start phase 0 past log slots count now story
  pub below : (i : ℕ) (b : B) → At slots i b → (view b).number < count
  pub live : (i : ℕ) (b : B) → At slots i b → Lives (own (view b).number story) (view b)
  pub apart : (i j : ℕ) (b c : B) → At slots i b → At slots j c → (view b).number ≡ (view c).number → i ≡ j
  pub fresh : (n : ℕ) → count ≤ n → own n story ≡ []
  pub served : (n : ℕ) → IsServed (own n story)
  pub ready : (i : ℕ) (b : B) → At slots i b → (queued.had i → ⊥) → (share : Share) → turns_since (view b).number share 0 story + most phase share ≤ 1
  pub ends : (n : ℕ) → n < count → (closed_in (acts_in (own n story)) ≡ 1) ⊎ IsThere view slots n
  pub alert : (i : ℕ) (b : B) → At slots i b → Alert limits.share phase queued i (view b) story
  pub counted : phase ≡ Phase.Reads → AreCounted queued.counts story

-- After a crowd so far the journal failed, which is the last answer.
pub record HasFailed {B S : Type 0} (view : B → View) (rules : Rules S) (limits : Limits) (first : S) (start : Acts) (began : Option Journal) (log : Acts) (slots : List (Option B)) (count : ℕ) (now : S) : Type 0 where
  pub phase : Phase
  pub waits : ℕ
  pub journal : Option Journal
  pub stage : Stage
  pub mid : Acts
  pub last : Act
  pub may : MayFail stage
  pub crowd : Crowd view rules limits first start phase unqueued (at_stage stage (past_of waits began journal)) mid slots count now
  pub some : is_some journal ≡ true
  pub fails : IsFailure last
  pub logged : DidLog mid (last ∷ []) log

-- Connections were served at once. Each of them, at any time, had run the first of the lines that it
-- gave, and was sent the first part of their answers; if it was closed in order, all of them. The lines
-- of all connections were run one after another. As long as the table stays, each tenant's replies are
-- those that it would get alone, without the calls that were refused for memory or for the journal; another
-- server that agrees on a tenant's quota, arrays, calls and refusals would give it the same replies, whatever else
-- that server holds and does. A new table keeps or empties each tenant's arrays. A tenant whose quota and
-- arrays each new table kept gets over all lines the replies that it would get alone.
pub record HasServedMany {S : Type 0} (rules : Rules S) (limits : Limits) (writer : Option Writing) (how : Ending) (log log' : Acts) (before after : S) : Type 0 where
  pub story : Story
  pub logged : DidLog log (acts_in story) log'
  pub served : (n : ℕ) → IsServed (own n story)
  -- a line was run after its bytes had come, and before any of its answer was written
  pub order : (p q : Story) → story ≡ p ++ q → (n : ℕ) → IsPart (acts_in (own n p)) (turns_in (own n p))
  -- all lines of a round were run before any answer of it was written
  pub phases : IsPhased false story
  -- where one client at most is served, its lines were run one at a time: each is answered before the next
  pub single : limits.clients ≡ 1 → AreSingle story
  -- since the server last waited each connection was read at most once, had lines run at most once, and
  -- was written at most once
  pub fair : HasTurns story
  -- since the server last waited at most so many connections of each tenant were heard: read, or lines of them run
  pub shared : HasShares limits.share story
  -- Before each wait that may sleep, each open connection was read until nothing more had come, all its
  -- lines were run, and their answers are written; or its answers wait for the client to read, and the
  -- system was asked to tell when it does.
  pub awake : IsAwake story
  -- between two waits each open connection to which something was owed at the first one had its turn, or as many
  -- connections of its tenant as a share were heard
  pub each : HasEach limits.share story
  -- at each moment at most so many connections were open, and at most so many came
  pub few : HasFew limits.clients story
  pub total : came_in (acts_in story) ≤ limits.connections
  -- A log-in is refused since its tenant has enough connections exactly where there is a limit, the name
  -- and the token are right, and the tenant speaks on as many of the other open connections.
  pub limited : IsLimited limits.tenant_clients [] story
  -- With a journal, directly before lines of a speaker are run, the system was asked whether the journal takes
  -- records of its tenant. If it said no, exactly those of these lines that ask for a call that changes arrays are
  -- refused for it: they make no call. Otherwise, and without a journal, none is.
  pub inquired : IsInquired (is_some limits.journal) [] story
  -- connections were closed for their time only where it has a limit, there are questions only where
  -- there is a status socket, and nothing else was asked
  pub within : AreWithin limits (acts_in story)
  -- the server ended for a cause, and no fault of a connection is one
  pub cause : IsCaused how story
  -- at `Done` as many connections as were wanted have come, and each of them was closed
  pub done : how ≡ ending.Done → (n : ℕ) → n < limits.connections → closed_in (acts_in (own n story)) ≡ 1
  -- Each question is answered before the server waits again, and each answer answers a question. The file of
  -- the table is read only where that is asked for, and only after it a new table is put in force.
  -- Connections are closed since their speakers are gone only then, before that question is answered.
  pub asked : AreAsked Stage.Unasked story
  -- no question is left without its answer, but the one for a stop, and the one for a table whose record the
  -- journal does not take
  pub answered : IsLastStage how (stage_since Stage.Unasked story)
  -- Each status that was told is that of the service and of the open connections at this moment. Somebody
  -- speaks on a connection that is closed since its speaker is gone. Whether the journal takes records is asked
  -- for the name and the limit of who speaks on the connection. Nothing but lines and tables changes the service.
  pub told : Passes rules [] before story after
  -- each table that was put in force is the one that was just read; without a status socket there is none
  pub reads : AreRead limits None story
  -- with a journal: no answer was written before the records of all lines that were run and of all tenants that
  -- left were kept in it
  pub journaled : AreKept (opened limits.journal writer) story
  -- with a journal each new table is told with the names of the tenants that it leaves out
  pub lasts : Lasts rules (is_some limits.journal) before story after
  -- between changes of the table each tenant's replies are those that it would get alone
  pub alone : Chain IsAlone (rules.seen before) (runs_in story) (rules.seen after)
  -- and over all lines, for a tenant whose quota and arrays each new table kept
  pub kept : (t : ℕ) → Keeps rules t [] before story after told → IsAloneFor t (rules.seen before) (turns_in story) (rules.seen after)
