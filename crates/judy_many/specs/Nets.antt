-- What was asked of the system, and its answers, each with the number of its connection.
--     Act                       one answer of the system
--     Step                      one of those that are no connection's
--     DidLog log acts log'      these were its answers and no others, where they are known
use Rattle.std.specs.Prelude.{◌≡◌, ℕ, ◌≤◌, ◌++◌, ◌==◌, not, Bool, true, false, List, [], ◌∷◌, Option, Some, None, Result, Ok, Err, take}
use Rattle.judy_many.specs.declared.network.How.{How}
use Rattle.judy_many.specs.declared.network.Got.{Got}
use Rattle.judy_many.specs.declared.network.Got.TheVariants as got
use Rattle.judy_many.specs.declared.network.Question.{Question}
use Rattle.judy_many.specs.declared.network.Question.TheVariants as question
use Rattle.judy_many.specs.declared.network.Unread.{Unread}
use Rattle.judy_many.specs.declared.network.Put.{Put}
use Rattle.judy_many.specs.declared.network.Put.TheVariants as put

-- what was asked of the system besides connections, and its result
pub data Step : Type 0 where
  -- these random bytes were drawn as a secret
  Drawn : List ℕ → Step
  -- the system gives no random bytes
  Undrawn : Step
  -- the file at this path was opened, and these are its bytes, where they are known
  Opened : List ℕ → Option (List ℕ) → Step
  -- the file cannot be opened
  Unopened : List ℕ → Step
  -- the file was closed, and these bytes of it were left, where they are known
  Shut : Option (List ℕ) → Step
  -- a socket was made at this path
  Bound : List ℕ → Step
  -- the socket cannot be made
  Unbound : List ℕ → Step
  -- the status socket was made at this path
  Watched : List ℕ → Step
  -- the status socket cannot be made
  Unwatched : List ℕ → Step
  -- the control socket was made at this path
  Controlled : List ℕ → Step
  -- the control socket cannot be made
  Uncontrolled : List ℕ → Step

-- an answer of the system
pub data Act : Type 0 where
  -- this connection came, and was accepted into this slot
  Came : ℕ → ℕ → Act
  -- a connection came, and could not be accepted
  Refused : Act
  -- the connection gave these bytes
  Read : ℕ → List ℕ → Act
  -- a read of it gave nothing, since nothing more had come
  Dry : ℕ → Act
  -- the connection ended, or a read of it failed
  Ended : ℕ → Act
  Broke : ℕ → Act
  -- the connection took these bytes, or a write to it failed
  Wrote : ℕ → List ℕ → Act
  Failed : ℕ → Act
  -- the connection was closed, and why
  Closed : ℕ → How → Act
  -- The server waited until something happened, if it might sleep, or looked whether it had. It was told
  -- that the connections in these slots became ready.
  Waited : Bool → List ℕ → Act
  -- the listener, or the wait, failed for good
  Lost : Act
  -- something else was asked of the system
  Asked : Step → Act
  -- this was asked on the status socket, and this text is what it was answered
  Questioned : Question → Act
  Reported : List ℕ → Act
  -- this line was told to the operator
  Warned : List ℕ → Act
  -- the file of the table was read again, or an order was asked for, and this is the text; or it was not
  Tabled : List ℕ → Act
  Untabled : Act
  -- the question named this tenant
  Named : List ℕ → Act
  -- a question was answered with this text
  Replied : List ℕ → Act
  -- the file of this segment of the journal was made, without bytes, and its directory was synced
  Began : ℕ → Act
  -- these bytes were appended to the journal's segment; or not all of them were, or no file was made
  Kept : List ℕ → Act
  Unkept : Act
  -- all that was appended to the journal is on the disk; or the sync failed
  Synced : Act
  Unsynced : Act
  -- before lines of this connection were run: whether the journal takes records of the tenant of this name, with
  -- this limit, and the answer
  Took : ℕ → List ℕ → Option ℕ → Bool → Act

-- the answers so far, where they are known
abbrev pub Acts : Type 0
Acts = Option (List Act)

-- these were the answers, one after another, and no others
abbrev pub DidLog : Acts → List Act → Acts → Type 0
DidLog None more log' = Unit {0}
DidLog (Some log) more log' = log' ≡ Some (log ++ more)

-- a read gave at least one byte, and at most as many as the buffer has
abbrev pub Fits : Got → ℕ → Type 0
Fits (got.Bytes n) room = (1 ≤ n) × (n ≤ room)
Fits got.Nothing room = Unit {0}
Fits got.End room = Unit {0}
Fits got.Fault room = Unit {0}

-- the answer to a read
abbrev pub read_acts : Got → ℕ → List ℕ → List Act
read_acts (got.Bytes n) number buffer = Read number (take n buffer) ∷ []
read_acts got.Nothing number buffer = Dry number ∷ []
read_acts got.End number buffer = Ended number ∷ []
read_acts got.Fault number buffer = Broke number ∷ []

-- a write took at most as many bytes as there were
abbrev pub Takes : Put → ℕ → Type 0
Takes (put.Took n) most = n ≤ most
Takes put.Fault most = Unit {0}

-- the answer to a write
abbrev pub write_acts : Put → ℕ → List ℕ → List Act
write_acts (put.Took n) number bytes = Wrote number (take n bytes) ∷ []
write_acts put.Fault number bytes = Failed number ∷ []

-- whether a wait of so many milliseconds may sleep; without a time it has no limit
abbrev pub may_sleep : Option ℕ → Bool
may_sleep None = true
may_sleep (Some time) = not (time == 0)

-- the answer to a wait, which told of these slots
abbrev pub wait_acts : Option Bool → Bool → List ℕ → List Act
wait_acts (Some comes) sleeps told = Waited sleeps told ∷ []
wait_acts None sleeps told = Lost ∷ []

-- whether a read gave bytes
abbrev pub gives : Got → Bool
gives (got.Bytes n) = true
gives got.Nothing = false
gives got.End = false
gives got.Fault = false

-- what was asked on the status socket
abbrev pub question_acts : Question → List Act
question_acts question.Nothing = []
question_acts question.Status = Questioned question.Status ∷ []
question_acts question.Stop = Questioned question.Stop ∷ []
question_acts question.Reload = Questioned question.Reload ∷ []
question_acts question.Kick = Questioned question.Kick ∷ []

-- the file of a segment was made, or not
abbrev pub begin_acts : Bool → ℕ → List Act
begin_acts true segment = Began segment ∷ []
begin_acts false segment = Unkept ∷ []

-- bytes were appended to the journal, or not
abbrev pub keep_acts : Bool → List ℕ → List Act
keep_acts true bytes = Kept bytes ∷ []
keep_acts false bytes = Unkept ∷ []

-- the journal was synced, or not
abbrev pub sync_acts : Bool → List Act
sync_acts true = Synced ∷ []
sync_acts false = Unsynced ∷ []

-- whether the journal takes records of the tenant of this name, with this limit
abbrev pub takes_acts : Bool → ℕ → List ℕ → Option ℕ → List Act
takes_acts takes number name limit = Took number name limit takes ∷ []

-- the file of the table was read again, or not
abbrev pub table_acts : Result (Unit {0}) Unread → List ℕ → List Act
table_acts (Ok u) text = Tabled text ∷ []
table_acts (Err e) text = Untabled ∷ []
