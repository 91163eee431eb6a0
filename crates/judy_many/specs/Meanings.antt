-- What the bytes mean that come to a socket of the operator.
--     command_meaning line order kicks   what the line of a command asks
--     status_meaning line page whole     what the line of a question for the status asks
--     HasMeaning purpose asked meaning   what these bytes ask there
use Rattle.std.specs.Prelude.{◌≡◌, ◌⊎◌, ◌++◌, ℕ, Bool, List, [], ◌∷◌, codes, if◌then◌else◌}
use Rattle.std.specs.Ordering.{eq_by_cmp}
use Rattle.judy_model.specs.Contents.{string_order}
use Rattle.judy_protocol.specs.Talks.{HasNoLf}
use Rattle.judy_many.specs.declared.network.Question.TheVariants as question
use Rattle.judy_many.specs.declared.questions.Meaning.{Meaning}
use Rattle.judy_many.specs.declared.questions.Meaning.TheVariants as meaning
use Rattle.judy_many.specs.declared.questions.Purpose.{Purpose}
use Rattle.judy_many.specs.declared.questions.Purpose.TheVariants as purpose

abbrev pub is_word : List ℕ → List ℕ → Bool
is_word line word = eq_by_cmp string_order line word

-- a stop; that the table is read again, or that a tenant is frozen or thawed; that connections of a tenant are closed
abbrev pub command_meaning : List ℕ → Bool → Bool → Meaning
command_meaning line order kicks =
    if is_word line (codes "STOP") then meaning.Asks question.Stop
    else (if is_word line (codes "RELOAD") then meaning.Asks question.Reload
    else (if order then meaning.Asks question.Reload
    else (if kicks then meaning.Asks question.Kick else meaning.Other)))

-- the status, as it is or by HTTP once the request is whole
abbrev pub status_meaning : List ℕ → Bool → Bool → Meaning
status_meaning line page whole =
    if is_word line (codes "STATUS") then meaning.Asks question.Status
    else (if page then (if whole then meaning.Page else meaning.Part) else meaning.Other)

-- a line is this text, or it has a carriage return behind it
abbrev pub IsBare : List ℕ → List ℕ → Type 0
IsBare line text = (line ≡ text) ⊎ (line ≡ text ++ 13 ∷ [])

-- what a line asks, without its line feed and a carriage return before that
abbrev pub LineHas : Purpose → List ℕ → Meaning → Type 0
LineHas purpose.Status line m = (page : Bool) × (whole : Bool) × (m ≡ status_meaning line page whole)
LineHas purpose.Control line m = (order : Bool) × (kicks : Bool) × (m ≡ command_meaning line order kicks)

-- It is what their first line asks. Without a line they ask nothing yet.
abbrev pub HasMeaning : Purpose → List ℕ → Meaning → Type 0
HasMeaning p asked m = (HasNoLf asked × (m ≡ meaning.Part))
    ⊎ ((line : List ℕ) × (rest : List ℕ) × (text : List ℕ) × HasNoLf line × (asked ≡ line ++ 10 ∷ rest) × IsBare line text × LineHas p text m)
