-- Bytes of one line, and the calls that are recorded.
--     is_plain bytes                no byte is a line feed
--     spaced fields                 fields as a line, one space between them
--     short_line line               a line with one space between its fields, and none around them
--     is_refused reply              the reply refuses the call
--     says_unchanged call reply     the reply says that nothing changed
--     counts event reply            the call may have changed arrays
--     has_changed events replies    the same of a line's call, if it makes one
use Rattle.std.specs.Prelude.{ℕ, Bool, true, false, not, ◌&&◌, ◌||◌, ◌==◌, List, [], ◌∷◌, ◌++◌}
use Rattle.std.specs.List.{list_all}
use Rattle.judy_model.specs.declared.calls.Call.{Call}
use Rattle.judy_model.specs.declared.replies.Reply.{Reply}
use Rattle.judy_model.specs.declared.replies.Reply.TheVariants.{Full, ReadOnly, Frozen, Memory}
use Rattle.judy_model.specs.Grammar.{fields_of}
use Rattle.judy_model.specs.Speakers.{Event}
use Rattle.judy_model.specs.Tenant.{changes}
use Rattle.judy_model.specs.Unchanged.{leaves}

abbrev pub is_plain : List ℕ → Bool
is_plain bytes = list_all (λ b. not (b == 10)) bytes

-- fields behind others, a space before each
abbrev pub spaced_more : List (List ℕ) → List ℕ
spaced_more [] = []
spaced_more (field ∷ fields) = 32 ∷ (field ++ spaced_more fields)

-- fields as a line, one space between them
abbrev pub spaced : List (List ℕ) → List ℕ
spaced [] = []
spaced (field ∷ fields) = field ++ spaced_more fields

-- the line with one space between its fields, and none around them; so it is recorded
abbrev pub short_line : List ℕ → List ℕ
short_line line = spaced (fields_of line)

-- whether the reply refuses the call: for the right, the quota or memory
abbrev pub is_refused : Reply → Bool
is_refused Full = true
is_refused ReadOnly = true
is_refused Frozen = true
is_refused Memory = true
is_refused _ = false

-- whether the reply says that nothing changed: it refuses the call, or says that all was so before
abbrev pub says_unchanged : Call → Reply → Bool
says_unchanged call reply = is_refused reply || leaves call reply

-- whether the call may have changed its tenant's arrays; such calls are recorded
abbrev pub counts : Event → Reply → Bool
counts event reply = changes event.call && not (says_unchanged event.call reply)

-- the same of a line's call; a line that makes none changes nothing
abbrev pub has_changed : List Event → List Reply → Bool
has_changed (event ∷ events) (reply ∷ replies) = counts event reply
has_changed (event ∷ events) [] = false
has_changed [] replies = false
