-- The record of a line in a journal.
--     IsRecorded names events replies records    one if its call may have changed arrays, and none otherwise
use Rattle.std.specs.Prelude.{◌≡◌, ℕ, Bool, true, false, List, [], ◌∷◌, Option, Some, None}
use Rattle.judy_journal.specs.Journals.{Commit, record_of}
use Rattle.judy_model.specs.declared.calls.Call.{Call}
use Rattle.judy_model.specs.declared.replies.Reply.{Reply}
use Rattle.judy_model.specs.declared.requests.Line.TheVariants as request
use Rattle.judy_model.specs.Reading.{request_of}
use Rattle.judy_model.specs.Speakers.{Event, Speaker}
use Rattle.judy_protocol.specs.Plain.{counts, short_line}

-- the record of a call, if it is recorded: the tenant's name and a line that asks for this call
abbrev pub IsRecord : Bool → List ℕ → Call → Commit → Type 0
IsRecord true name call records = (line : List ℕ) × (records ≡ record_of name line ∷ []) × (request_of line ≡ Some (request.Call call))
IsRecord false name call records = records ≡ []

-- the record of a line, by the names in force: one if its call may have changed arrays, and none otherwise
abbrev pub IsRecorded : (ℕ → List ℕ) → List Event → List Reply → Commit → Type 0
IsRecorded names (e ∷ events) (r ∷ replies) records = IsRecord (counts e r) (names e.speaker.tenant) e.call records
IsRecorded names (e ∷ events) [] records = records ≡ []
IsRecorded names [] replies records = records ≡ []

-- the record that a line leaves: whether it may have changed arrays, who spoke, and its bytes, of which the
-- short spelling is recorded
abbrev pub records_of : Bool → (ℕ → List ℕ) → Option Speaker → Option (List ℕ) → Commit
records_of true names (Some who) (Some line) = record_of (names who.tenant) (short_line line) ∷ []
records_of true names (Some who) None = []
records_of true names None line = []
records_of false names who line = []
