-- Why the serving of many ended.
--     IsCaused how story     the cause of each ending
use Rattle.std.specs.Prelude.{◌≡◌, ◌⊎◌, ◌+◌, ℕ, List, [], ◌∷◌, ◌++◌, Bool, true, false, if◌then◌else◌}
use Rattle.judy_many.specs.declared.arrivals.Arrival.{Arrival}
use Rattle.judy_many.specs.declared.arrivals.Arrival.TheVariants as arrival
use Rattle.judy_many.specs.declared.network.Question.TheVariants as question
use Rattle.judy_many.specs.declared.serve.Ending.{Ending}
use Rattle.judy_many.specs.declared.serve.Ending.TheVariants as ending
use Rattle.judy_many.specs.Nets.{Act}
use Rattle.judy_many.specs.Nets.Act.{Waited, Lost, Questioned, Reported, Unkept, Unsynced}
use Rattle.judy_many.specs.Journaling.{IsFailure}
use Rattle.judy_many.specs.Stories.{Story, acts_in, is_wait}
use Rattle.judy_many.specs.Stories.Moment.{Did}

-- how often the listener, the wait or the journal failed for good, or a stop was asked for: the server
-- then ends
abbrev pub lost_by : Act → ℕ
lost_by Lost = 1
lost_by (Questioned question.Stop) = 1
lost_by Unkept = 1
lost_by Unsynced = 1
lost_by act = 0

abbrev pub lost_in : List Act → ℕ
lost_in [] = 0
lost_in (a ∷ acts) = lost_by a + lost_in acts

-- how often a status was told
abbrev pub reports_by : Act → ℕ
reports_by (Reported text) = 1
reports_by act = 0

abbrev pub reports_in : List Act → ℕ
reports_in [] = 0
reports_in (a ∷ acts) = reports_by a + reports_in acts

-- how often the server waited
abbrev pub waits_in : List Act → ℕ
waits_in [] = 0
waits_in (a ∷ acts) = (if is_wait a then 1 else 0) + waits_in acts

-- an accept that failed for good, and a wait
abbrev pub lost_at : Arrival → List Act
lost_at arrival.Came = []
lost_at arrival.Nothing = []
lost_at arrival.Later = []
lost_at arrival.Fault = Lost ∷ []

abbrev pub lost_unless : Bool → List Act
lost_unless true = []
lost_unless false = Lost ∷ []

abbrev pub waited_if : Bool → Bool → List ℕ → List Act
waited_if true sleeps told = Waited sleeps told ∷ []
waited_if false sleeps told = Lost ∷ []

-- the last answer, and no other, is that the listener or the wait failed for good
pub record IsLost (story : Story) : Type 0 where
  pub before : Story
  pub last : story ≡ before ++ Did Lost ∷ []
  pub once : lost_in (acts_in before) ≡ 0

-- the last thing that happened is that a stop was asked for, and nothing failed for good before
pub record IsStopped (story : Story) : Type 0 where
  pub before : Story
  pub last : story ≡ before ++ Did (Questioned question.Stop) ∷ []
  pub once : lost_in (acts_in before) ≡ 0

-- the last thing that happened is that the journal could not be written or synced
pub record IsUnkept (story : Story) : Type 0 where
  pub before : Story
  pub act : Act
  pub fails : IsFailure act
  pub last : story ≡ before ++ Did act ∷ []
  pub once : lost_in (acts_in before) ≡ 0

-- 2^64 - 1 rounds have passed, and nothing failed for good
pub record IsSpent (story : Story) : Type 0 where
  pub rounds : waits_in (acts_in story) ≡ 18446744073709551615
  pub unlost : lost_in (acts_in story) ≡ 0

-- The server ends in order only where nothing failed for good. It ends with a fault of the socket only
-- where the listener or the wait failed for good, or after 2^64 - 1 rounds, for memory only before
-- anything was asked of the system, by a stop only where one was asked for, as the last thing, and with a
-- fault of the journal only where the last thing is that it could not be written or synced. Each of these
-- ends it at once, with no other ending. No fault of a connection ends it.
abbrev pub IsCaused : Ending → Story → Type 0
IsCaused ending.Done story = lost_in (acts_in story) ≡ 0
IsCaused ending.Memory story = story ≡ []
IsCaused ending.Stopped story = IsStopped story
IsCaused ending.Journal story = IsUnkept story
IsCaused ending.Socket story = IsLost story ⊎ IsSpent story
