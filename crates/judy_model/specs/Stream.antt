-- The requests in a connection's bytes, and the replies to them.
use Rattle.std.specs.Prelude.{ℕ, ◌-◌, Bool, true, false, List, [], ◌∷◌, ◌++◌, map, length, Option, Some, None, nat_lt, ◌==◌, take, if◌then◌else◌, codes}
use Rattle.std.specs.List.{slice_split}
use Rattle.std.specs.Str.Lines.{strip_carriage_return}
use Rattle.judy_model.specs.declared.replies.Reply.{Reply}
use Rattle.judy_model.specs.declared.requests.Line.{Line}
use Rattle.judy_model.specs.declared.requests.Line.TheVariants as request
use Rattle.judy_model.specs.declared.requests.TheConstants.{LINE_LIMIT}
use Rattle.judy_model.specs.Replies.{text, line}
use Rattle.judy_model.specs.Reading.{request_of}
use Rattle.judy_model.specs.Speakers.{Speaker, Event}

-- the tenant with this name and token, and the right that the token gives; None if there is no such
-- tenant
abbrev pub Login : Type 0
Login = List ℕ → List ℕ → Option Speaker

-- the last of the parts between line feeds
abbrev pub last_part : List (List ℕ) → List ℕ
last_part [] = []
last_part (part ∷ []) = part
last_part (part ∷ other ∷ more) = last_part (other ∷ more)

-- the lines of a stream, each without its line feed; bytes after the last line feed are no line
abbrev pub lines_of : List ℕ → List (List ℕ)
lines_of stream = let parts = slice_split (λ b. b == 10) stream in take (length parts - 1) parts

-- the bytes after the last line feed of a stream, which are no line yet
abbrev pub rest_of : List ℕ → List ℕ
rest_of stream = let parts = slice_split (λ b. b == 10) stream in last_part parts

-- what a line is: too long, no request, or a request
pub data Heard : Type 0 where
  TooLong : Heard
  Unclear : Heard
  Asked : Line → Heard

-- the same for a line that is not too long
abbrev pub heard_request : Option Line → Heard
heard_request None = Unclear
heard_request (Some request) = Asked request

-- a line of more than 4,096 bytes is too long; a carriage return counts
abbrev pub heard : List ℕ → Heard
heard line = if nat_lt LINE_LIMIT (length line) then TooLong else heard_request (request_of (strip_carriage_return line))

-- whether the line is `QUIT`
abbrev pub is_quit : Heard → Bool
is_quit (Asked request.Quit) = true
is_quit _ = false

-- the lines up to and including the first `QUIT`
abbrev pub through_quit : List Heard → List Heard
through_quit [] = []
through_quit (Asked request.Quit ∷ rest) = Asked request.Quit ∷ []
through_quit (h ∷ rest) = h ∷ through_quit rest

-- the lines of a stream that are served
abbrev pub served : List ℕ → List Heard
served stream = through_quit (map heard (lines_of stream))

-- the speaker after the line; `who` is the speaker before it. A wrong AUTH line leaves no speaker.
abbrev pub speaker_after : Login → Option Speaker → Heard → Option Speaker
speaker_after login who (Asked (request.Auth name token)) = login name token
speaker_after login who _ = who

-- the speaker after these lines
abbrev pub speaker_of : Login → Option Speaker → List Heard → Option Speaker
speaker_of login who [] = who
speaker_of login who (h ∷ rest) = speaker_of login (speaker_after login who h) rest

-- the event of a line, if it is a call and there is a speaker
abbrev pub event_of : Heard → Option Speaker → List Event
event_of (Asked (request.Call call)) (Some speaker) = record { speaker = speaker; call = call } ∷ []
event_of _ _ = []

-- the calls of the lines, each with its speaker
abbrev pub events_from : Login → Option Speaker → List Heard → List Event
events_from login who [] = []
events_from login who (h ∷ rest) = event_of h who ++ events_from login (speaker_after login who h) rest

-- the calls of a stream; a connection begins without a speaker
abbrev pub events : Login → List ℕ → List Event
events login stream = events_from login None (served stream)

-- the reply to an AUTH line
abbrev pub welcome : Option Speaker → List ℕ
welcome (Some speaker) = line (codes "OK")
welcome None = line (codes "ERR AUTH")

-- The reply to a HELLO line: the version of the protocol, and the most bytes of a line, of a reply, of a
-- name, of a token and of a key.
abbrev pub greeting : List ℕ
greeting = codes "JUDYD 1 line 4096 reply 4096 name 32 token 128 key 1000"

-- the text written for the lines; the replies are those to the lines' events
abbrev pub answer_from : Login → Option Speaker → List Heard → List Reply → List ℕ
answer_from login who [] replies = []
answer_from login who (TooLong ∷ rest) replies = line (codes "ERR LONG") ++ answer_from login who rest replies
answer_from login who (Unclear ∷ rest) replies = line (codes "ERR SYNTAX") ++ answer_from login who rest replies
answer_from login who (Asked (request.Auth name token) ∷ rest) replies = welcome (login name token) ++ answer_from login (login name token) rest replies
answer_from login who (Asked request.Quit ∷ rest) replies = line (codes "BYE") ++ answer_from login who rest replies
answer_from login who (Asked request.Ping ∷ rest) replies = line (codes "OK") ++ answer_from login who rest replies
answer_from login who (Asked request.Hello ∷ rest) replies = line greeting ++ answer_from login who rest replies
answer_from login None (Asked (request.Call call) ∷ rest) replies = line (codes "ERR AUTH") ++ answer_from login None rest replies
answer_from login (Some speaker) (Asked (request.Call call) ∷ rest) (reply ∷ replies) = text reply ++ answer_from login (Some speaker) rest replies
answer_from login (Some speaker) (Asked (request.Call call) ∷ rest) [] = answer_from login (Some speaker) rest []

-- the text written for a stream; the replies are those to its events
abbrev pub answer : Login → List ℕ → List Reply → List ℕ
answer login stream replies = answer_from login None (served stream) replies
