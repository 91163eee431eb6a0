-- The acts that a note of the system's record stands for.
--     acts_of numbers more bytes    the acts by their number, other numbers and bytes
--     come_acts, step_if            the answer to an accept, and a step that was made or was not
use Rattle.std.specs.Prelude.{ℕ, Bool, true, false, List, [], ◌∷◌, slice_index, ◌==◌, if◌then◌else◌, Option, None, Some}
use Rattle.judy_many.specs.Nets.{Act, Step}
use Rattle.judy_many.specs.declared.network.Accept.{Accept}
use Rattle.judy_many.specs.declared.network.Accept.TheVariants as accept
use Rattle.judy_many.specs.declared.network.How.{How}
use Rattle.judy_many.specs.declared.network.How.TheVariants as how
use Rattle.judy_many.specs.declared.network.Question.{Question}
use Rattle.judy_many.specs.declared.network.Question.TheVariants as question

-- why a connection is closed, by its number
abbrev pub how_of : ℕ → How
how_of n =
    if n == 0 then how.Quit
    else if n == 1 then how.End
    else if n == 2 then how.Fault
    else if n == 3 then how.Login
    else if n == 4 then how.Idle
    else if n == 5 then how.Over
    else if n == 6 then how.Memory
    else if n == 7 then how.Gone
    else how.Kicked

-- a question, by its number
abbrev pub question_of : ℕ → Question
question_of n =
    if n == 0 then question.Status
    else if n == 1 then question.Stop
    else if n == 2 then question.Reload
    else question.Kick

-- an optional number, as a list
abbrev pub first_of : List ℕ → Option ℕ
first_of [] = None
first_of (n ∷ more) = Some n

-- an act of a connection: its number, that of the connection, another number, more of them, and bytes
abbrev pub connection_act : ℕ → ℕ → ℕ → List ℕ → List ℕ → Act
connection_act act n m more bytes =
    if act == 0 then Act.Came n m
    else if act == 1 then Act.Read n bytes
    else if act == 2 then Act.Dry n
    else if act == 3 then Act.Ended n
    else if act == 4 then Act.Broke n
    else if act == 5 then Act.Wrote n bytes
    else if act == 6 then Act.Failed n
    else if act == 7 then Act.Closed n (how_of m)
    else Act.Took n bytes (first_of more) (m == 1)

-- an act of the server: its number, another number, more of them, and bytes
abbrev pub server_act : ℕ → ℕ → List ℕ → List ℕ → Act
server_act act n more bytes =
    if act == 0 then Act.Refused
    else if act == 1 then Act.Waited (n == 1) more
    else if act == 2 then Act.Lost
    else if act == 3 then Act.Questioned (question_of n)
    else if act == 4 then Act.Reported bytes
    else if act == 5 then Act.Warned bytes
    else if act == 6 then Act.Tabled bytes
    else if act == 7 then Act.Untabled
    else if act == 8 then Act.Named bytes
    else if act == 9 then Act.Replied bytes
    else if act == 10 then Act.Began n
    else if act == 11 then Act.Kept bytes
    else if act == 12 then Act.Unkept
    else if act == 13 then Act.Synced
    else Act.Unsynced

-- a step: its number, and a path or a secret
abbrev pub step_of : ℕ → List ℕ → Step
step_of step bytes =
    if step == 0 then Step.Drawn bytes
    else if step == 1 then Step.Undrawn
    else if step == 2 then Step.Opened bytes None
    else if step == 3 then Step.Unopened bytes
    else if step == 4 then Step.Shut None
    else if step == 5 then Step.Bound bytes
    else if step == 6 then Step.Unbound bytes
    else if step == 7 then Step.Watched bytes
    else if step == 8 then Step.Unwatched bytes
    else if step == 9 then Step.Controlled bytes
    else Step.Uncontrolled bytes

-- the number of the group, and the numbers of the act in it
abbrev pub act_of : List ℕ → List ℕ → List ℕ → Act
act_of numbers more bytes =
    if slice_index numbers 0 == 0 then connection_act (slice_index numbers 1) (slice_index numbers 2) (slice_index numbers 3) more bytes
    else if slice_index numbers 0 == 1 then server_act (slice_index numbers 1) (slice_index numbers 2) more bytes
    else Act.Asked (step_of (slice_index numbers 1) bytes)

-- the answer to an accept, for this number and this slot
abbrev pub come_acts : {C : Type 0} → Accept C → ℕ → ℕ → List Act
come_acts (accept.Came c) n slot = Act.Came n slot ∷ []
come_acts accept.Nothing n slot = []
come_acts accept.Later n slot = Act.Refused ∷ []
come_acts accept.Fault n slot = Act.Lost ∷ []

-- a step that was made at a path, or one that was not
abbrev pub step_if : (List ℕ → Step) → (List ℕ → Step) → Bool → List ℕ → List Act
step_if done undone true path = Act.Asked (done path) ∷ []
step_if done undone false path = Act.Asked (undone path) ∷ []
