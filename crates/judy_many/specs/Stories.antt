-- What happened, in order.
--     Moment                       an answer of the system, lines of one connection that were run, or a new table
--     acts_in, turns_in            the answers of a story, and its lines
--     recorded_in                  its records in a journal
--     own n story                  the moments of one connection
--     hears m                      whether a connection is read, or lines of it are run
--     came_in, closed_in           how many connections came, and how many were closed
--     IsPhased                     the lines of a round were run before any of its answers was written
--     HasTurns                     each connection has at most one turn in a round
--     AreSingle                    one line at a time was run
--     AreWithin limits             why connections were closed, and that nothing else was asked
use Rattle.std.specs.List.{list_any}
use Rattle.std.specs.Prelude.{◌≡◌, ◌⊎◌, ◌==◌, ◌≤◌, ◌+◌, ℕ, Bool, true, false, List, [], ◌∷◌, ◌++◌, codes, is_some, if◌then◌else◌, length, Option, Some, None}
use Rattle.judy_journal.specs.Journals.{Commit}
use Rattle.judy_journal.specs.Leaving.{gone_records}
use Rattle.judy_many.specs.declared.network.How.{How}
use Rattle.judy_many.specs.declared.network.How.TheVariants as how
use Rattle.judy_many.specs.declared.buffers.Sent.{Sent}
use Rattle.judy_many.specs.declared.buffers.Sent.TheVariants as sent
use Rattle.judy_many.specs.declared.network.Got.{Got}
use Rattle.judy_many.specs.declared.network.Got.TheVariants as got
use Rattle.judy_many.specs.declared.serve.Limits.{Limits}
use Rattle.judy_many.specs.Nets.{Act}
use Rattle.judy_many.specs.Nets.Act.{Came, Read, Dry, Ended, Broke, Wrote, Failed, Closed, Waited, Asked, Questioned, Reported, Warned, Tabled, Untabled, Named, Replied, Began, Kept, Unkept, Synced, Unsynced, Took}
use Rattle.judy_many.specs.Sessions.{Turn, records_in}

-- an answer of the system, or lines of one connection that were run one after another, or the table of
-- this text was put in force, or the order that this text is was carried out; with a journal, the tenants of these
-- names left with that
pub data Moment : Type 0 where
  Did : Act → Moment
  Ran : ℕ → List Turn → Moment
  Changed : List ℕ → List (List ℕ) → Moment

abbrev pub Story : Type 0
Story = List Moment

-- the answers of the system
abbrev pub acts_by : Moment → List Act
acts_by (Did a) = a ∷ []
acts_by (Ran n turns) = []
acts_by (Changed text left) = []

abbrev pub acts_in : Story → List Act
acts_in [] = []
acts_in (m ∷ story) = acts_by m ++ acts_in story

-- the lines that were run
abbrev pub turns_by : Moment → List Turn
turns_by (Did a) = []
turns_by (Ran n turns) = turns
turns_by (Changed text left) = []

abbrev pub turns_in : Story → List Turn
turns_in [] = []
turns_in (m ∷ story) = turns_by m ++ turns_in story

-- the records: those of the lines, and one for the tenants that left at one change
abbrev pub recorded_by : Moment → Commit
recorded_by (Did a) = []
recorded_by (Ran n turns) = records_in turns
recorded_by (Changed text left) = gone_records left

abbrev pub recorded_in : Story → Commit
recorded_in [] = []
recorded_in (m ∷ story) = recorded_by m ++ recorded_in story

-- only these answers
abbrev pub told : List Act → Story
told [] = []
told (a ∷ acts) = Did a ∷ told acts

-- whether an answer is this connection's
abbrev pub is_of : ℕ → Act → Bool
is_of n (Came m i) = m == n
is_of n (Read m bytes) = m == n
is_of n (Dry m) = m == n
is_of n (Ended m) = m == n
is_of n (Broke m) = m == n
is_of n (Wrote m bytes) = m == n
is_of n (Failed m) = m == n
is_of n (Closed m how) = m == n
is_of n (Took m name limit takes) = m == n
is_of n act = false

-- whether a moment is this connection's
abbrev pub belongs : ℕ → Moment → Bool
belongs n (Did a) = is_of n a
belongs n (Ran m turns) = m == n
belongs n (Changed text left) = false

-- the moments of one connection
abbrev pub own : ℕ → Story → Story
own n [] = []
own n (m ∷ story) = if belongs n m then m ∷ own n story else own n story

-- all of them are this connection's
abbrev pub Mine : ℕ → Story → Type 0
Mine n [] = Unit {0}
Mine n (m ∷ story) = (belongs n m ≡ true) × Mine n story

-- they are answers to reads of this connection
abbrev pub IsRead : ℕ → Act → Type 0
IsRead n (Read m bytes) = (m == n) ≡ true
IsRead n (Dry m) = (m == n) ≡ true
IsRead n (Ended m) = (m == n) ≡ true
IsRead n (Broke m) = (m == n) ≡ true
IsRead n act = ⊥

abbrev pub AreReads : ℕ → List Act → Type 0
AreReads n [] = Unit {0}
AreReads n (a ∷ acts) = IsRead n a × AreReads n acts

-- they are answers to writes to this connection
abbrev pub IsWrite : ℕ → Act → Type 0
IsWrite n (Wrote m bytes) = (m == n) ≡ true
IsWrite n (Failed m) = (m == n) ≡ true
IsWrite n act = ⊥

abbrev pub AreWrites : ℕ → List Act → Type 0
AreWrites n [] = Unit {0}
AreWrites n (a ∷ acts) = IsWrite n a × AreWrites n acts

-- whether an answer says that a connection sends no more
abbrev pub is_end : Act → Bool
is_end (Ended m) = true
is_end act = false

-- whether it says that a read or a write failed
abbrev pub is_fault : Act → Bool
is_fault (Broke m) = true
is_fault (Failed m) = true
is_fault act = false

-- no answer says so
abbrev pub AreWell : List Act → Type 0
AreWell acts = (list_any is_end acts ≡ false) × (list_any is_fault acts ≡ false)

-- what a read, and a write, says of the connection
abbrev pub TellsRead : Got → List Act → Type 0
TellsRead (got.Bytes n) acts = AreWell acts
TellsRead got.Nothing acts = AreWell acts
TellsRead got.End acts = list_any is_end acts ≡ true
TellsRead got.Fault acts = list_any is_fault acts ≡ true

abbrev pub has_failed : Sent → Bool
has_failed sent.Some = false
has_failed sent.Nothing = false
has_failed sent.Fault = true

abbrev pub TellsWrite : Sent → List Act → Type 0
TellsWrite sent acts = (list_any is_end acts ≡ false) × (list_any is_fault acts ≡ has_failed sent)

-- whether it is the answer to a read
abbrev pub is_read : Act → Bool
is_read (Read m bytes) = true
is_read (Dry m) = true
is_read (Ended m) = true
is_read (Broke m) = true
is_read act = false

-- one line at a time is run
abbrev pub AreSingle : Story → Type 0
AreSingle [] = Unit {0}
AreSingle (Did a ∷ story) = AreSingle story
AreSingle (Ran n turns ∷ story) = (length turns ≤ 1) × AreSingle story
AreSingle (Changed text left ∷ story) = AreSingle story

-- whether a connection is read, or lines of it are run
abbrev pub hears : Moment → Bool
hears (Did a) = is_read a
hears (Ran n turns) = true
hears (Changed text left) = false

-- how many connections came
abbrev pub came_by : Act → ℕ
came_by (Came m i) = 1
came_by act = 0

abbrev pub came_in : List Act → ℕ
came_in [] = 0
came_in (a ∷ acts) = came_by a + came_in acts

-- how many were closed
abbrev pub closed_by : Act → ℕ
closed_by (Closed m how) = 1
closed_by act = 0

abbrev pub closed_in : List Act → ℕ
closed_in [] = 0
closed_in (a ∷ acts) = closed_by a + closed_in acts

-- Whether bytes were written since the server last waited, if this says whether they were before.
abbrev pub writes_after : Bool → Moment → Bool
writes_after wrote (Did (Wrote m bytes)) = true
writes_after wrote (Did (Failed m)) = true
writes_after wrote (Did (Waited sleeps told)) = false
writes_after wrote moment = wrote

abbrev pub writes_since : Bool → Story → Bool
writes_since wrote [] = wrote
writes_since wrote (m ∷ story) = writes_since (writes_after wrote m) story

-- Lines are run only where nothing was written since the server last waited. So all lines of a round
-- are run before any answer of that round is written.
abbrev pub MayCome : Bool → Moment → Type 0
MayCome wrote (Did a) = Unit {0}
MayCome wrote (Ran n turns) = wrote ≡ false
MayCome wrote (Changed text left) = Unit {0}

abbrev pub IsPhased : Bool → Story → Type 0
IsPhased wrote [] = Unit {0}
IsPhased wrote (m ∷ story) = MayCome wrote m × IsPhased (writes_after wrote m) story

-- a connection may be closed for this reason
abbrev pub IsAllowed : Limits → How → Type 0
IsAllowed limits how.Login = is_some limits.login ≡ true
IsAllowed limits how.Idle = is_some limits.idle ≡ true
IsAllowed limits how.Over = is_some limits.turn ≡ true
IsAllowed limits how.Gone = limits.status ≡ true
IsAllowed limits how.Kicked = limits.status ≡ true
IsAllowed limits other = Unit {0}

-- one text is the beginning of another
abbrev pub BeginsWith : List ℕ → List ℕ → Type 0
BeginsWith head text = (rest : List ℕ) × (text ≡ head ++ rest)

-- what is told of an order or of a table that was asked for: whether it was carried out or put in force
abbrev pub told_head : Bool → Bool → List ℕ
told_head true true = codes "tenant "
told_head true false = codes "no tenant frozen or thawed: "
told_head false true = codes "table read again: "
told_head false false = codes "table not read again: "

-- The operator is told of refused log-ins, of requests that were refused for memory, of tables that were read
-- again, and of orders.
abbrev pub IsWarning : Limits → List ℕ → Type 0
IsWarning limits text = BeginsWith (codes "log-in refused: ") text ⊎ BeginsWith (codes "out of memory: ") text
    ⊎ ((limits.status ≡ true) × ((order : Bool) × (changed : Bool) × BeginsWith (told_head order changed) text))

-- Connections were closed for lack of bytes or for their age only where a limit was given. Questions
-- were answered only where there is a status socket, and bytes were kept only where there is a journal.
-- Nothing else was asked of the system, but to warn the operator.
abbrev pub IsWithin : Limits → Act → Type 0
IsWithin limits (Closed m how) = IsAllowed limits how
IsWithin limits (Asked s) = ⊥
IsWithin limits (Questioned q) = limits.status ≡ true
IsWithin limits (Reported text) = limits.status ≡ true
IsWithin limits (Warned text) = IsWarning limits text
IsWithin limits (Tabled text) = limits.status ≡ true
IsWithin limits Untabled = limits.status ≡ true
IsWithin limits (Named name) = limits.status ≡ true
IsWithin limits (Replied text) = limits.status ≡ true
IsWithin limits (Began k) = is_some limits.journal ≡ true
IsWithin limits (Kept text) = is_some limits.journal ≡ true
IsWithin limits Unkept = is_some limits.journal ≡ true
IsWithin limits Synced = is_some limits.journal ≡ true
IsWithin limits Unsynced = is_some limits.journal ≡ true
IsWithin limits act = Unit {0}

abbrev pub AreWithin : Limits → List Act → Type 0
AreWithin limits [] = Unit {0}
AreWithin limits (a ∷ acts) = IsWithin limits a × AreWithin limits acts

-- the tables that were put in force and the orders that were carried out
abbrev pub changes_in : Story → List (List ℕ)
changes_in [] = []
changes_in (Did a ∷ story) = changes_in story
changes_in (Ran n turns ∷ story) = changes_in story
changes_in (Changed text left ∷ story) = text ∷ changes_in story

-- the text of the table or the order that was just read, if one was
abbrev pub just_read : Act → Option (List ℕ)
just_read (Tabled text) = Some text
just_read _ = None

-- A table is put in force only directly after its text was read, and only where there is a status
-- socket.
abbrev pub AreRead : Limits → Option (List ℕ) → Story → Type 0
AreRead limits last [] = Unit {0}
AreRead limits last (Did a ∷ story) = AreRead limits (just_read a) story
AreRead limits last (Ran n turns ∷ story) = AreRead limits None story
AreRead limits last (Changed text left ∷ story) = (last ≡ Some text) × (limits.status ≡ true) × AreRead limits None story

-- the lines that were run between changes of the table
abbrev pub first_with : List Turn → List (List Turn) → List (List Turn)
first_with turns [] = turns ∷ []
first_with turns (run ∷ runs) = (turns ++ run) ∷ runs

abbrev pub runs_in : Story → List (List Turn)
runs_in [] = [] ∷ []
runs_in (Did a ∷ story) = runs_in story
runs_in (Ran n turns ∷ story) = first_with turns (runs_in story)
runs_in (Changed text left ∷ story) = [] ∷ runs_in story

-- the phases of a round: clients are read and their lines run, then they are written, then those whose
-- time is over are closed
pub data Phase : Type 0 where
  Reads : Phase
  Writes : Phase
  Sweeps : Phase

-- In the first phase nothing is written, and in the others no line is run.
abbrev pub InPhase : Phase → Story → Type 0
InPhase Phase.Reads more = IsPhased false more × (writes_since false more ≡ false)
InPhase Phase.Writes more = (wrote : Bool) → IsPhased wrote more
InPhase Phase.Sweeps more = (wrote : Bool) → IsPhased wrote more

-- the shares of a turn
pub data Share : Type 0 where
  Reading : Share
  Asking : Share
  Running : Share
  Writing : Share

-- each as a number: 1 for the share itself, 0 for the others
abbrev pub reading : Share → ℕ
reading Share.Reading = 1
reading Share.Asking = 0
reading Share.Running = 0
reading Share.Writing = 0

abbrev pub asking : Share → ℕ
asking Share.Reading = 0
asking Share.Asking = 1
asking Share.Running = 0
asking Share.Writing = 0

abbrev pub running : Share → ℕ
running Share.Reading = 0
running Share.Asking = 0
running Share.Running = 1
running Share.Writing = 0

abbrev pub writing : Share → ℕ
writing Share.Reading = 0
writing Share.Asking = 0
writing Share.Running = 0
writing Share.Writing = 1

-- how often an answer, a moment or a story is such a share of a turn
abbrev pub share_of : Act → Share → ℕ
share_of (Read m bytes) share = reading share
share_of (Dry m) share = reading share
share_of (Ended m) share = reading share
share_of (Broke m) share = reading share
share_of (Took m name limit takes) share = asking share
share_of (Wrote m bytes) share = writing share
share_of (Failed m) share = writing share
share_of act share = 0

abbrev pub share_by : Moment → Share → ℕ
share_by (Did a) share = share_of a share
share_by (Ran n turns) share = running share
share_by (Changed text left) share = 0

abbrev pub times : Share → Story → ℕ
times share [] = 0
times share (m ∷ story) = share_by m share + times share story

-- the most of them that one client has in a phase
abbrev pub most : Phase → Share → ℕ
most Phase.Reads share = reading share + asking share + running share
most Phase.Writes share = writing share
most Phase.Sweeps share = 0

-- a phase in which no line is run
abbrev pub IsLate : Phase → Type 0
IsLate Phase.Reads = ⊥
IsLate Phase.Writes = Unit {0}
IsLate Phase.Sweeps = Unit {0}

abbrev pub IsOnce : Phase → Story → Type 0
IsOnce phase more = (share : Share) → times share more ≤ most phase share

-- whether the server waited
abbrev pub is_wait : Act → Bool
is_wait (Waited sleeps told) = true
is_wait act = false

abbrev pub waits_by : Moment → Bool
waits_by (Did a) = is_wait a
waits_by (Ran n turns) = false
waits_by (Changed text left) = false

-- How often a connection had this share of a turn since the server last waited, if this says how often
-- it had before.
abbrev pub turns_after : ℕ → Share → ℕ → Moment → ℕ
turns_after n share count m = if waits_by m then 0 else (if belongs n m then count + share_by m share else count)

abbrev pub turns_since : ℕ → Share → ℕ → Story → ℕ
turns_since n share count [] = count
turns_since n share count (m ∷ story) = turns_since n share (turns_after n share count m) story

-- At each moment: since the server last waited, each connection was read at most once, the system was asked at
-- most once whether the journal takes records of its tenant, it had lines run at most once, and it was written
-- at most once.
abbrev pub HasTurns : Story → Type 0
HasTurns story = (p q : Story) → story ≡ p ++ q → (n : ℕ) (share : Share) → turns_since n share 0 p ≤ 1

-- the moments up to the last wait, with it
abbrev pub upto_since : Story → Story → Story → Story
upto_since upto before [] = upto
upto_since upto before (m ∷ story) = upto_since (if waits_by m then before ++ m ∷ [] else upto) (before ++ m ∷ []) story

abbrev pub upto_wait : Story → Story
upto_wait story = upto_since [] [] story

-- moments of one open connection in one phase of a round
pub record IsPiece (n : ℕ) (phase : Phase) (more : Story) : Type 0 where
  pub mine : Mine n more
  pub once : IsOnce phase more
  pub came : came_in (acts_in more) ≡ 0
  pub unclosed : closed_in (acts_in more) ≡ 0
  pub within : (limits : Limits) → AreWithin limits (acts_in more)
  pub part : InPhase phase more
