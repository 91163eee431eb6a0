-- A connection so far: what was heard and answered, who the speaker is, and what has come of the
-- next line.
use Rattle.std.specs.Prelude.{◌≡◌, ℕ, ◌<◌, ◌≤◌, Bool, true, false, not, List, [], ◌∷◌, ◌++◌, zip, length, IsTrue, ◌==◌, Option, Some, None, option_map, Result, Ok, Err}
use Rattle.std.specs.List.{list_all}
use Rattle.std.specs.Io.KnownBytes.{Appends}
use Rattle.judy_stream.specs.Streams.{IsFlushed, counted}
use Rattle.judy_model.specs.declared.replies.Reply.{Reply}
use Rattle.judy_model.specs.declared.requests.Line.{Line}
use Rattle.judy_model.specs.declared.requests.TheConstants.{LINE_LIMIT}
use Rattle.judy_model.specs.Speakers.{Speaker}
use Rattle.judy_model.specs.Reading.{request_of}
use Rattle.judy_model.specs.Stream.{Heard, Login, heard_request, rest_of, through_quit, speaker_after, speaker_of, event_of, events_from, answer_from}
use Rattle.judy_model.specs.Stream.Heard.{TooLong, Unclear, Asked}
use Rattle.judy_protocol.specs.Plain.{has_changed}
use Rattle.judy_protocol.specs.Services.{Made, AreMade}
use Rattle.judy_protocol.specs.Serving.{AreOneText, MaybeBytes, answers_limit, heard_in, asks_to_quit}
use Rattle.judy_protocol.specs.declared.connection.Stop.{Stop}
use Rattle.judy_protocol.specs.declared.connection.Stop.TheVariants as stop
use Rattle.judy_protocol.specs.declared.gathering.Batch.{Batch}
use Rattle.judy_protocol.specs.declared.held.Held.{Held}
use Rattle.judy_protocol.specs.declared.turns.Refusal.{Refusal}
use Rattle.judy_protocol.specs.declared.turns.Refusal.TheVariants as refusal

-- no byte is a line feed
abbrev pub HasNoLf : List ℕ → Type 0
HasNoLf bytes = IsTrue (list_all (λ b. not (b == 10)) bytes)

-- what has come of the next line is held, or the line is known to be too long
abbrev pub Holds : List ℕ → Held → Type 0
Holds rest held = (held.long ≡ true → LINE_LIMIT < length rest) × (held.long ≡ false → held.bytes.items ≡ rest)

-- what is held after more bytes of the line
abbrev pub LineGrows : Held → List ℕ → Held → Type 0
LineGrows held chunk held' = (rest : List ℕ) → Holds rest held → Holds (rest ++ chunk) held'

-- the line is held; or nothing is held of it, and it is the chunk alone
abbrev pub IsJoined : Bool → List ℕ → Held → List ℕ → Type 0
IsJoined true line held chunk = Holds line held
IsJoined false line held chunk = line ≡ chunk

-- what a line asks for, by its bytes without one CR at their end; None if it is too long
abbrev pub heard_bare : Option (List ℕ) → Heard
heard_bare None = TooLong
heard_bare (Some bytes) = heard_request (request_of bytes)

-- what a line asks for, from the result of reading it
abbrev pub as_heard : Result Line Refusal → Heard
as_heard (Ok request) = Asked request
as_heard (Err refusal.Long) = TooLong
as_heard (Err refusal.Syntax) = Unclear

-- After any stream whose rest is held, these bytes complete these lines, and end with the last of
-- them. Nothing is held then.
pub record Completes (held : Held) (bytes : List ℕ) (lines : List Heard) (held' : Held) : Type 0 where
  pub heard : (stream : List ℕ) → Holds (rest_of stream) held → heard_in (stream ++ bytes) ≡ heard_in stream ++ lines
  pub ended : (stream : List ℕ) → rest_of (stream ++ bytes) ≡ []
  pub empty : Holds [] held'

-- a connection at one time: what has come of the next line, the speaker, the service, and what was
-- written
pub record Talk (S : Type 0) : Type 0 where
  pub held : Held
  pub who : Option Speaker
  pub service : S
  pub taken : MaybeBytes

abbrev pub talk : {S P : Type 0} → (P → Speaker) → Held → Option P → S → MaybeBytes → Talk S
talk who held speaker service taken = record { held = held; who = option_map who speaker; service = service; taken = taken }

module _ {S : Type 0} (made : Made S) (login : Login) where
  -- a line was run, and this text is its answer
  pub record Turn (line : Heard) (who who' : Option Speaker) (before after : S) (text : List ℕ) : Type 0 where
    pub replies : List Reply
    pub speaks : who' ≡ speaker_after login who line
    pub count : length replies ≡ length (event_of line who)
    pub run : AreMade made before (zip (event_of line who) replies) after
    pub text_is : text ≡ answer_from login who (line ∷ []) replies

  -- The same, and whether the line made a call that may have changed arrays, so that it is recorded.
  pub record HasRun (line : Heard) (who who' : Option Speaker) (before after : S) (text : List ℕ) (changed : Bool) : Type 0 where
    pub turn : Turn line who who' before after text
    pub changed_is : changed ≡ has_changed (event_of line who) turn.replies

  -- lines were run, one after another, and this text is their answers
  pub record Turns (lines : List Heard) (who who' : Option Speaker) (before after : S) (text : List ℕ) : Type 0 where
    pub replies : List Reply
    pub speaks : who' ≡ speaker_of login who lines
    pub count : length replies ≡ length (events_from login who lines)
    pub run : AreMade made before (zip (events_from login who lines) replies) after
    pub text_is : text ≡ answer_from login who lines replies

  -- Lines were run, and their answers were gathered as one text: these bytes complete them, and end
  -- with the last of them. Only the last may have asked to quit.
  pub record Gathers (batch : Batch) (bytes : List ℕ) (quit : Bool) (held held' : Held) (who who' : Option Speaker) (before after : S) (text : List ℕ) : Type 0 where
    pub lines : List Heard
    pub complete : Completes held bytes lines held'
    pub turns : Turns lines who who' before after text
    pub one_text : AreOneText batch lines
    pub last : through_quit lines ≡ lines
    pub quits : asks_to_quit lines ≡ quit

  -- The lines were run, starting from the service `first`, and answered after the bytes `before`.
  -- Now `who` is the speaker, `now` is the service, and `taken` was written.
  pub record Answered (first : S) (before : MaybeBytes) (lines : List Heard) (who : Option Speaker) (now : S) (taken : MaybeBytes) : Type 0 where
    pub text : List ℕ
    pub turns : Turns lines None who first now text
    pub written : Appends before taken text

  -- the lines of the stream were answered, none asked to quit, and its rest is held
  pub record Told (first : S) (before : MaybeBytes) (stream : List ℕ) (now : Talk S) : Type 0 where
    pub holds : Holds (rest_of stream) now.held
    pub goes_on : asks_to_quit (heard_in stream) ≡ false
    pub answered : Answered first before (heard_in stream) now.who now.service now.taken

  -- the bytes were also heard and answered
  abbrev pub Hears : List ℕ → Talk S → Talk S → Type 0
  Hears bytes from to = (first : S) (before : MaybeBytes) (stream : List ℕ) → Told first before stream from → Told first before (stream ++ bytes) to

  -- why the connection stops: a line asked to quit, and all answers were written, or a write failed
  abbrev pub StopsBy : Stop → Bool → List ℕ → Type 0
  StopsBy stop.Quit quit missing = (quit ≡ true) × (missing ≡ [])
  StopsBy stop.WriteFault quit missing = Unit {0}

  -- The bytes were heard up to a line at which the connection stopped. The lines of `kept` were run
  -- and answered. Then those of `cut` were run, and `sent` was written of their answers, which are one
  -- text. If nothing of it was written, the texts before it were flushed. The bytes after them had no
  -- effect.
  pub record Stops (batch : Batch) (how : Stop) (bytes : List ℕ) (from : Talk S) (after : S) (taken : MaybeBytes) (pending pending' : Bool) : Type 0 where
    pub kept : List ℕ
    pub cut : List ℕ
    pub unheard : List ℕ
    pub mid : Talk S
    pub quit : Bool
    pub held : Held
    pub who : Option Speaker
    pub text : List ℕ
    pub sent : List ℕ
    pub missing : List ℕ
    pub parts : kept ++ (cut ++ unheard) ≡ bytes
    pub few : length unheard < length bytes
    pub hears : Hears kept from mid
    pub gathers : Gathers batch cut quit mid.held held mid.who who mid.service after text
    pub short : length text ≤ answers_limit
    pub split : sent ++ missing ≡ text
    pub written : Appends mid.taken taken sent
    pub flushed : sent ≡ [] → IsFlushed pending pending'
    pub by : StopsBy how quit missing

-- the count of failed writes, by where the connection stops: a failed write counts once
abbrev pub stop_faults : Option Stop → ℕ → ℕ
stop_faults None count = count
stop_faults (Some stop.Quit) count = count
stop_faults (Some stop.WriteFault) count = counted count
