-- One connection among many: what it gave and took, and the lines that it ran.
--     read_in, wrote_in            the bytes that it gave, and those that it took
--     IsLive acts turns v          a client so far, with what it keeps
--     Lives story v                the same at each moment
--     HearsWhenReady story         it is read, and lines of it are run, only when all before is answered
--     IsServed story               the promise to a connection, at any time and after its end
--     SlotDid ..                   what happened to the client of a slot
use Rattle.std.specs.List.{list_any}
use Rattle.std.specs.Prelude.{◌≡◌, ◌≤◌, ◌||◌, ℕ, Bool, true, false, List, [], ◌∷◌, ◌++◌, Option, Some, None, option_map}
use Rattle.judy_model.specs.Speakers.{Speaker}
use Rattle.judy_model.specs.Stream.{rest_of, served, through_quit}
use Rattle.judy_protocol.specs.Serving.{heard_in, asks_to_quit}
use Rattle.judy_protocol.specs.Talks.{Holds}
use Rattle.judy_protocol.specs.declared.held.Held.{Held}
use Rattle.judy_many.specs.declared.client.Client.{Client}
use Rattle.judy_many.specs.declared.network.How.{How}
use Rattle.judy_many.specs.declared.network.How.TheVariants as how
use Rattle.judy_many.specs.declared.serve.Limits.{Limits}
use Rattle.judy_many.specs.Nets.{Act}
use Rattle.judy_many.specs.Nets.Act.{Read, Wrote, Closed}
use Rattle.judy_many.specs.Sessions.{Turn, lines_in, texts, Speaks}
use Rattle.judy_many.specs.Stories.{AreWithin, Moment, Phase, InPhase, IsOnce, Mine, Story, acts_in, came_in, closed_in, hears, is_end, is_fault, is_read, turns_in}
use Rattle.judy_many.specs.Stories.Moment.{Did}

-- the bytes that were read
abbrev pub read_by : Act → List ℕ
read_by (Read m bytes) = bytes
read_by act = []

abbrev pub read_in : List Act → List ℕ
read_in [] = []
read_in (a ∷ acts) = read_by a ++ read_in acts

-- the bytes that were written
abbrev pub wrote_by : Act → List ℕ
wrote_by (Wrote m bytes) = bytes
wrote_by act = []

abbrev pub wrote_in : List Act → List ℕ
wrote_in [] = []
wrote_in (a ∷ acts) = wrote_by a ++ wrote_in acts

-- whether the connection was closed after its last answer
abbrev pub is_orderly : How → Bool
is_orderly how.Quit = true
is_orderly how.End = true
is_orderly other = false

abbrev pub ends_well : Act → Bool
ends_well (Closed m how) = is_orderly how
ends_well act = false

abbrev pub end_well : List Act → Bool
end_well [] = false
end_well (a ∷ acts) = ends_well a || end_well acts

-- what a client keeps
pub record View : Type 0 where
  pub number : ℕ
  -- what came and is not heard yet
  pub waiting : List ℕ
  -- whether more may wait to be read
  pub more : Bool
  pub held : Held
  pub who : Option Speaker
  -- the answers that are not written yet
  pub pending : List ℕ
  -- whether a line asked to quit
  pub quits : Bool

abbrev pub view_of : {P C : Type 0} → (P → Speaker) → (C → ℕ) → Client P C → View
view_of who number c = record {
  number = number c.connection;
  waiting = c.input.waiting;
  more = c.input.more;
  held = c.session.held;
  who = option_map who c.session.speaker;
  pending = c.answers;
  quits = c.quits;
}

-- A client so far: the lines of the bytes that it gave were run, but for those that wait; their
-- answers were written, but for those that wait; only the last line may have asked to quit.
pub record IsLive (acts : List Act) (turns : List Turn) (v : View) : Type 0 where
  pub heard : List ℕ
  pub read : read_in acts ≡ heard ++ v.waiting
  pub ran : lines_in turns ≡ heard_in heard
  pub holds : Holds (rest_of heard) v.held
  pub speaks : Speaks None turns v.who
  pub text : wrote_in acts ++ v.pending ≡ texts turns
  pub last : through_quit (lines_in turns) ≡ lines_in turns
  pub asked : v.quits ≡ asks_to_quit (lines_in turns)
  pub stays : end_well acts ≡ false

-- The lines that were run are the first of those that the connection gave, up to one that asks to
-- quit, and what was written to it is the first part of their answers.
pub record IsPart (acts : List Act) (turns : List Turn) : Type 0 where
  pub heard : List ℕ
  pub unheard : List ℕ
  pub missing : List ℕ
  pub last_who : Option Speaker
  pub read : read_in acts ≡ heard ++ unheard
  pub ran : lines_in turns ≡ heard_in heard
  pub speaks : Speaks None turns last_who
  pub text : wrote_in acts ++ missing ≡ texts turns
  pub last : through_quit (lines_in turns) ≡ lines_in turns

-- All lines that the connection gave were run, up to the first that asks to quit, and what was
-- written to it is their answers and nothing else.
pub record IsWhole (acts : List Act) (turns : List Turn) : Type 0 where
  pub last_who : Option Speaker
  pub ran : lines_in turns ≡ served (read_in acts)
  pub speaks : Speaks None turns last_who
  pub text : wrote_in acts ≡ texts turns

-- At each moment so far, the lines that were run are the first of those whose bytes had come, and what
-- was written is the first part of the answers to lines that had been run.
abbrev pub IsOrdered : Story → Type 0
IsOrdered story = (p q : Story) → story ≡ p ++ q → IsPart (acts_in p) (turns_in p)

-- A connection is ready to be heard: it came and is open, the answers to all its lines so far are written,
-- none of them asked to quit, it has not ended, and no read and no write of it has failed.
pub record IsReady (acts : List Act) (turns : List Turn) : Type 0 where
  pub came : came_in acts ≡ 1
  pub unclosed : closed_in acts ≡ 0
  pub written : wrote_in acts ≡ texts turns
  pub unasked : asks_to_quit (lines_in turns) ≡ false
  pub unended : list_any is_end acts ≡ false
  pub unfailed : list_any is_fault acts ≡ false

-- it is read, and lines of it are run, only when it is ready
abbrev pub HearsWhenReady : Story → Type 0
HearsWhenReady story = (p q : Story) (m : Moment) → story ≡ p ++ m ∷ q → hears m ≡ true → IsReady (acts_in p) (turns_in p)

-- Why a connection is closed: a line asked to quit; it sends no more; a read or a write of it failed;
-- nobody had logged in on it; or there was no memory for its buffers, and then it was not read and no line of
-- it was run. A connection whose speaker is gone, or was kicked, had logged in.
abbrev pub IsReason : How → List Act → List Turn → Type 0
IsReason how.Quit acts turns = asks_to_quit (lines_in turns) ≡ true
IsReason how.End acts turns = list_any is_end acts ≡ true
IsReason how.Fault acts turns = list_any is_fault acts ≡ true
IsReason how.Login acts turns = Speaks None turns None
IsReason how.Idle acts turns = Unit {0}
IsReason how.Over acts turns = Unit {0}
IsReason how.Memory acts turns = (list_any is_read acts ≡ false) × (turns ≡ [])
IsReason how.Gone acts turns = (who : Speaker) × Speaks None turns (Some who)
IsReason how.Kicked acts turns = (who : Speaker) × Speaks None turns (Some who)

-- it was closed for a reason
abbrev pub HasReason : Story → Type 0
HasReason story = (p q : Story) (n : ℕ) (how : How) → story ≡ p ++ Did (Closed n how) ∷ q → IsReason how (acts_in p) (turns_in p)

-- a client so far, at each moment
pub record Lives (story : Story) (v : View) : Type 0 where
  pub live : IsLive (acts_in story) (turns_in story) v
  pub order : IsOrdered story
  pub ready : HearsWhenReady story
  pub came : came_in (acts_in story) ≡ 1
  pub unclosed : closed_in (acts_in story) ≡ 0
  pub unended : list_any is_end (acts_in story) ≡ false
  pub unfailed : list_any is_fault (acts_in story) ≡ false

-- the promise to a connection, at any time; and all of it, once it was closed in order
pub record IsServed (story : Story) : Type 0 where
  pub order : IsOrdered story
  pub ready : HearsWhenReady story
  pub whole : end_well (acts_in story) ≡ true → IsWhole (acts_in story) (turns_in story)
  pub why : HasReason story
  -- it came at most once, and was closed at most once
  pub once : (came_in (acts_in story) ≤ 1) × (closed_in (acts_in story) ≤ came_in (acts_in story))

-- what happened to a client: it is closed, or stays
abbrev pub Goes : View → Option View → Story → Type 0
Goes v None more = (closed_in (acts_in more) ≡ 1) × ((story : Story) → Lives story v → IsServed (story ++ more))
Goes v (Some w) more = (w.number ≡ v.number) × (closed_in (acts_in more) ≡ 0) × ((story : Story) → Lives story v → Lives (story ++ more) w)

-- The same for a slot, which may have no client. It has at most one turn in a phase of a round.
abbrev pub SlotDid : Limits → Phase → Option View → Option View → Story → Type 0
SlotDid limits phase None new more = (new ≡ None) × (more ≡ [])
SlotDid limits phase (Some v) new more = Mine v.number more × (came_in (acts_in more) ≡ 0) × AreWithin limits (acts_in more) × InPhase phase more × IsOnce phase more × Goes v new more
