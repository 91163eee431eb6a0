-- The lines of a session, run one after another, between lines of other sessions.
--     Turn                         one line that was run: who spoke, the reply to its call, and who speaks after it
--     texts turns                  the answers
--     Speaks who turns who'        who speaks before and after each of one session's lines
--     AreTurns rules s turns s'    the service ran these lines, one after another
--     Steps ..                     these bytes were heard, and the lines that they complete were run
--     UseLogin login turns         each speaker of these lines comes from these names and tokens
--     calls_of turn                its call, if it makes one
--     AreLetIn turns               no log-in was refused since its tenant has enough connections, and no line
--                                  since the journal does not take its record
use Rattle.std.specs.Prelude.{◌≡◌, ℕ, Bool, true, false, List, [], ◌∷◌, ◌++◌, codes, if◌then◌else◌, is_some, map, zip, length, Option, None}
use Rattle.judy_journal.specs.Journals.{Commit}
use Rattle.judy_model.specs.declared.replies.Reply.{Reply}
use Rattle.judy_model.specs.Speakers.{Event, Speaker}
use Rattle.judy_model.specs.Stream.{Heard, Login, rest_of, through_quit, speaker_after, event_of, answer_from}
use Rattle.judy_protocol.specs.Services.{AreMade, HasLoggedIn}
use Rattle.judy_protocol.specs.Serving.{heard_in, asks_to_quit}
use Rattle.judy_protocol.specs.Talks.{Holds}
use Rattle.judy_protocol.specs.declared.held.Held.{Held}
use Rattle.judy_many.specs.Books.{Journal, noted_by}
use Rattle.judy_many.specs.Records.{IsRecorded}
use Rattle.judy_many.specs.Rules.{Rules}

-- a line that was run: the speaker before it, what it asks for, the reply to its call, if it makes one, and
-- the speaker after it
pub record Turn : Type 0 where
  pub who : Option Speaker
  pub line : Heard
  pub replies : List Reply
  pub after : Option Speaker
  -- its record in a journal, if its call may have changed arrays
  pub records : Commit
  -- the speaker with its name and token, if the line is a log-in and there is one
  pub claim : Option Speaker
  -- whether it is a log-in that was refused since its tenant has enough connections
  pub crowded : Bool
  -- whether it was refused since the journal does not take its record; then it makes no call
  pub barred : Bool

-- the lines
abbrev pub lines_in : List Turn → List Heard
lines_in turns = map (λ t. t.line) turns

-- the replies to the calls
abbrev pub replies_in : List Turn → List Reply
replies_in [] = []
replies_in (t ∷ turns) = t.replies ++ replies_in turns

-- the call of a line, if it makes one; one that is refused for the journal makes none
abbrev pub calls_if : Bool → Heard → Option Speaker → List Event
calls_if barred line who = if barred then [] else event_of line who

abbrev pub calls_of : Turn → List Event
calls_of t = calls_if t.barred t.line t.who

-- the calls of the lines
abbrev pub events_in : List Turn → List Event
events_in [] = []
events_in (t ∷ turns) = calls_of t ++ events_in turns

-- the records of the lines
abbrev pub records_in : List Turn → Commit
records_in [] = []
records_in (t ∷ turns) = t.records ++ records_in turns

-- the answer to a log-in whose tenant has enough connections
abbrev pub crowded_answer : List ℕ
crowded_answer = codes "ERR CLIENTS\n"

-- the answer to a line whose record the journal does not take
abbrev pub barred_answer : List ℕ
barred_answer = codes "ERR JOURNAL\n"

-- the answer to a line that is not refused for its tenant's connections
abbrev pub answer_if : Bool → Option Speaker → Option Speaker → Heard → List Reply → List ℕ
answer_if barred after who line replies = if barred then barred_answer else answer_from (λ name token. after) who (line ∷ []) replies

-- the answer to a line; any other log-in is answered by who speaks after it
abbrev pub text_of : Turn → List ℕ
text_of t = if t.crowded then crowded_answer else answer_if t.barred t.after t.who t.line t.replies

-- the answers
abbrev pub texts : List Turn → List ℕ
texts [] = []
texts (t ∷ turns) = text_of t ++ texts turns

-- the speakers of one session's lines: each line has the speaker that the line before it left
abbrev pub Speaks : Option Speaker → List Turn → Option Speaker → Type 0
Speaks who [] last = last ≡ who
Speaks who (t ∷ turns) last = (t.who ≡ who) × (length t.replies ≡ length (calls_of t)) × Speaks t.after turns last

-- nobody speaks after a log-in whose tenant has enough connections
abbrev pub unless_crowded : Bool → Option Speaker → Option Speaker
unless_crowded crowded who = if crowded then None else who

-- One line was run: its speaker may speak, by the table in force; its speaker afterwards is by the names
-- and tokens in force, unless its tenant has enough connections. Only a log-in with a right name and token
-- is refused for that. Its call was made, if it makes one, and then it was counted, with its answer, for
-- its speaker afterwards. Its record is that of its call, if that may have changed arrays.
pub record IsTurn {S : Type 0} (rules : Rules S) (before : S) (t : Turn) (after : S) : Type 0 where
  pub mid : S
  pub known : HasLoggedIn (rules.seen before).speakers t.who
  pub claims : t.claim ≡ speaker_after (rules.seen before).logins None t.line
  pub right : t.crowded ≡ true → is_some t.claim ≡ true
  pub speaks : t.after ≡ unless_crowded t.crowded (speaker_after (rules.seen before).logins t.who t.line)
  pub count : length t.replies ≡ length (calls_of t)
  pub calls : AreMade rules.made before (zip (calls_of t) t.replies) mid
  pub noted : rules.noted mid t.after t.line (text_of t) after
  pub recorded : IsRecorded (rules.seen before).names (calls_of t) t.replies t.records

-- the lines were run, one after another; they may be lines of many sessions
abbrev pub AreTurns : {S : Type 0} → Rules S → S → List Turn → S → Type 0
AreTurns rules before [] after = after ≡ before
AreTurns {S} rules before (t ∷ turns) after = (mid : S) × IsTurn rules before t mid × AreTurns rules mid turns after

-- no log-in was refused since its tenant has enough connections, and no line since the journal does not take
-- its record
abbrev pub AreLetIn : List Turn → Type 0
AreLetIn [] = Unit {0}
AreLetIn (t ∷ turns) = (t.crowded ≡ false) × (t.barred ≡ false) × AreLetIn turns

-- the speakers after these lines are by these names and tokens, unless their tenants have enough connections
abbrev pub ComeByLogin : Login → List Turn → Type 0
ComeByLogin login [] = Unit {0}
ComeByLogin login (t ∷ turns) = (t.after ≡ unless_crowded t.crowded (speaker_after login t.who t.line)) × ComeByLogin login turns

-- the speakers after these lines are by these names and tokens, and no line was refused for connections or for
-- the journal
abbrev pub UseLogin : Login → List Turn → Type 0
UseLogin login [] = Unit {0}
UseLogin login (t ∷ turns) = (t.crowded ≡ false) × (t.barred ≡ false) × (t.after ≡ speaker_after login t.who t.line) × UseLogin login turns

-- after any stream whose rest is held, these bytes complete these lines, and hold what is left
pub record Hears (held : Held) (bytes : List ℕ) (ls : List Heard) (held' : Held) : Type 0 where
  pub lines : (stream : List ℕ) → Holds (rest_of stream) held → heard_in (stream ++ bytes) ≡ heard_in stream ++ ls
  pub holds : (stream : List ℕ) → Holds (rest_of stream) held → Holds (rest_of (stream ++ bytes)) held'

-- Bytes of one session were heard, and the lines that they complete were run and answered. Only the
-- last of them may ask to quit. Their records are to be kept, if there is a journal.
pub record Steps {S : Type 0} (rules : Rules S) (used : List ℕ) (turns : List Turn) (quit : Bool) (held held' : Held)
    (who who' : Option Speaker) (before after : S) (answers answers' : List ℕ) (journal journal' : Option Journal) : Type 0 where
  pub hears : Hears held used (lines_in turns) held'
  pub speaks : Speaks who turns who'
  pub run : AreTurns rules before turns after
  pub text : answers' ≡ answers ++ texts turns
  pub last : through_quit (lines_in turns) ≡ lines_in turns
  pub quits : quit ≡ asks_to_quit (lines_in turns)
  pub noted : journal' ≡ noted_by (records_in turns) journal
