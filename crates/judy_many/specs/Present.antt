-- Who speaks on the open connections. Connections are numbered from 0, in the order in which they came.
--     speaker_since who turns    who speaks after these lines
--     speaker_of mine            who speaks on a connection with these moments of its own, if it is open
--     speakers_in story          who speaks on each open connection
--     AreOpen story who          these are they, in any order
--     speakers_at view slots     who speaks on the connections in these slots
use Rattle.std.specs.Prelude.{◌≡◌, ℕ, zero, suc, Bool, List, [], ◌∷◌, ◌++◌, Option, Some, None, count_by, if◌then◌else◌, nat_lt}
use Rattle.judy_model.specs.Speakers.{Speaker}
use Rattle.judy_many.specs.Lives.{View}
use Rattle.judy_many.specs.Sessions.{Turn}
use Rattle.judy_many.specs.Stories.{Story, acts_in, came_in, closed_in, own, turns_in}

-- the speaker that the last of these lines left
abbrev pub speaker_since : Option Speaker → List Turn → Option Speaker
speaker_since who [] = who
speaker_since who (t ∷ turns) = speaker_since t.after turns

-- it came, and was not closed
abbrev pub is_open : Story → Bool
is_open mine = nat_lt (closed_in (acts_in mine)) (came_in (acts_in mine))

abbrev pub speaker_of : Story → List (Option Speaker)
speaker_of mine = if is_open mine then speaker_since None (turns_in mine) ∷ [] else []

-- those of the connections with numbers below this one
abbrev pub speakers_below : ℕ → Story → List (Option Speaker)
speakers_below zero story = []
speakers_below (suc n) story = speakers_below n story ++ speaker_of (own n story)

abbrev pub speakers_in : Story → List (Option Speaker)
speakers_in story = speakers_below (came_in (acts_in story)) story

-- each speaker is as often among them as it speaks on an open connection
abbrev pub AreOpen : Story → List (Option Speaker) → Type 0
AreOpen story who = (test : Option Speaker → Bool) → count_by test who ≡ count_by test (speakers_in story)

-- who speaks on the connections in these slots, slot by slot
abbrev pub speaker_at : {B : Type 0} → (B → View) → Option B → List (Option Speaker)
speaker_at view None = []
speaker_at view (Some b) = (view b).who ∷ []

abbrev pub speakers_at : {B : Type 0} → (B → View) → List (Option B) → List (Option Speaker)
speakers_at view [] = []
speakers_at view (slot ∷ slots) = speaker_at view slot ++ speakers_at view slots
