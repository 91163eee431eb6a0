-- What `judyd serve` does, for any kind S of service: what it does with lines, and what is seen of it
-- (`rules`), and when the service is new (`is_new`).
--     Checks hosted ..        the table's file was checked; no socket was made
--     HasNoReserve ..         there is a service, and not the memory that was to be taken for it
--     HasServedAll how ..     there is a service and a socket, and connections were served at once
--     Hosts hosted ..         the whole: the table, the sockets, connections
use Rattle.std.specs.Prelude.{◌≡◌, ◌≢◌, ◌⊎◌, ℕ, Bool, true, false, List, [], ◌∷◌, ◌++◌, Option, Some, None, Result, Ok, Err}
use Rattle.judy_journal.specs.Writes.{Writing}
use Rattle.judy_many.specs.Crowds.{HasServedMany}
use Rattle.judy_many.specs.Nets.Step.{Bound, Controlled, Opened, Shut, Unbound, Uncontrolled, Unopened, Unwatched, Watched}
use Rattle.judy_many.specs.declared.serve.Ending.{Ending}
use Rattle.judy_many.specs.declared.serve.Ending.TheVariants as ending
use Rattle.judy_many.specs.declared.serve.Limits.{Limits}
use Rattle.judy_many.specs.Rules.{Rules}
use Rattle.judy_protocol.specs.Serving.{MaybeBytes}
use Rattle.judy_table.specs.declared.tenant.Tenant.{Tenant}
use Rattle.judy_many.specs.Nets.{Step}
use Rattle.judy_programs.specs.Asking.{Log, Logs}
use Rattle.judy_programs.specs.Opening.{HasOpened, IsShut}
use Rattle.judy_programs.specs.declared.socket.Hosted.{Hosted}
use Rattle.judy_programs.specs.declared.socket.Hosted.TheVariants as hosted

-- ---- the file with the table

module _ {S : Type 0} (is_new : List Tenant → S → Type 0) where
  -- the file with the table was opened once, read and closed, and its tenants got a new service
  pub record HasBegun (config : List ℕ) (log log' : Log) (before : S) : Type 0 where
    pub left : MaybeBytes
    pub left' : MaybeBytes
    pub opened : HasOpened is_new left left' before
    pub asked : Logs log (Opened config left ∷ Shut left' ∷ []) log'  -- no file but this one

  -- the file was opened once, read and closed, and what was read of it gives no service
  pub record HasNoService (how : Hosted) (config : List ℕ) (log log' : Log) : Type 0 where
    pub left : MaybeBytes
    pub left' : MaybeBytes
    pub shut : IsShut how left left'
    pub asked : Logs log (Opened config left ∷ Shut left' ∷ []) log'  -- and nothing else

-- a service is new by how many megabytes were taken for its arrays; so many are wanted, if any are
module _ {S : Type 0} (is_new : Option ℕ → List Tenant → S → Type 0) (reserve : Option ℕ) where
  -- the file was opened once, read and closed, and its tenants got a new service. There was no memory
  -- for the megabytes that are wanted. Nothing else was asked of the system
  pub record HasNoReserve (config : List ℕ) (log log' : Log) : Type 0 where
    pub megabytes : ℕ
    pub wanted : reserve ≡ Some megabytes
    pub before : S
    pub begun : HasBegun (is_new None) config log log' before

  -- there is no service: the file cannot be opened, or what was read of it gives none, or there is
  -- no memory for the megabytes that are wanted
  abbrev pub Refuses : Hosted → List ℕ → Log → Log → Type 0
  Refuses hosted.Done config log log' = ⊥
  Refuses hosted.Stopped config log log' = ⊥
  Refuses hosted.Socket config log log' = ⊥
  Refuses hosted.Recovery config log log' = ⊥
  Refuses hosted.Journal config log log' = ⊥
  Refuses hosted.Config config log log' = Logs log (Unopened config ∷ []) log' ⊎ HasNoService (is_new None) hosted.Config config log log'
  Refuses hosted.Long config log log' = HasNoService (is_new None) hosted.Long config log log'
  Refuses (hosted.Table f) config log log' = HasNoService (is_new None) (hosted.Table f) config log log'
  Refuses hosted.Memory config log log' = HasNoService (is_new None) hosted.Memory config log log'
  Refuses hosted.Reserve config log log' = HasNoReserve config log log'

  -- the service of the file, with the megabytes that are wanted, or why there is none
  abbrev pub Begins : Result S Hosted → List ℕ → Log → Log → Type 0
  Begins (Ok before) config log log' = HasBegun (is_new reserve) config log log' before
  Begins (Err how) config log log' = Refuses how config log log'

  -- the file has a table, and there was memory for its service and for the megabytes that are wanted;
  -- otherwise the result is the fault that the start of a server reports
  abbrev pub Checks : Hosted → List ℕ → Log → Log → Type 0
  Checks hosted.Done config log log' = (before : S) × HasBegun (is_new reserve) config log log' before
  Checks hosted.Socket config log log' = ⊥
  Checks hosted.Stopped config log log' = ⊥
  Checks hosted.Recovery config log log' = ⊥
  Checks hosted.Journal config log log' = ⊥
  Checks hosted.Config config log log' = Refuses hosted.Config config log log'
  Checks hosted.Long config log log' = Refuses hosted.Long config log log'
  Checks (hosted.Table f) config log log' = Refuses (hosted.Table f) config log log'
  Checks hosted.Memory config log log' = Refuses hosted.Memory config log log'
  Checks hosted.Reserve config log log' = Refuses hosted.Reserve config log log'

-- ---- the sockets of the operator

-- where the status socket and the control socket are made, if they are wanted
pub record Desks : Type 0 where
  pub status : Option (List ℕ)
  pub control : Option (List ℕ)

abbrev pub desks_at : Option (List ℕ) → Option (List ℕ) → Desks
desks_at status control = record { status = status; control = control }

-- each is made at its path, if it is wanted: first the status socket
abbrev pub made_at : (List ℕ → Step) → Option (List ℕ) → List Step
made_at made None = []
made_at made (Some path) = made path ∷ []

abbrev pub watched : Desks → List Step
watched desks = made_at Watched desks.status ++ made_at Controlled desks.control

-- no socket is made at an empty path
abbrev pub HavePaths : Desks → Type 0
HavePaths desks = (desks.status ≢ Some []) × (desks.control ≢ Some [])

-- one was made at its path, which is not empty, if it is wanted; or it cannot be made there
abbrev pub Makes : (List ℕ → Step) → (List ℕ → Step) → Bool → Option (List ℕ) → Log → Log → Type 0
Makes made unmade true path log log' = (path ≢ Some []) × Logs log (made_at made path) log'
Makes made unmade false None log log' = ⊥
Makes made unmade false (Some path) log log' = ((path ≡ []) × Logs log [] log') ⊎ ((path ≢ []) × Logs log (unmade path ∷ []) log')

-- both were made, if they are wanted; or the first cannot be made, or the second cannot after the first
abbrev pub Watches : Bool → Desks → Log → Log → Type 0
Watches true desks log log' = HavePaths desks × Logs log (watched desks) log'
Watches false desks log log' = Makes Watched Unwatched false desks.status log log'
    ⊎ ((mid : Log) × Makes Watched Unwatched true desks.status log mid × Makes Controlled Uncontrolled false desks.control mid log')

-- the socket cannot be made at its path, or one of the operator's cannot
abbrev pub HasNoSockets : List ℕ → Desks → Log → Log → Type 0
HasNoSockets socket watch log log' = ((socket ≡ []) × Logs log [] log') ⊎ ((socket ≢ []) × Logs log (Unbound socket ∷ []) log')
    ⊎ ((bound : Log) × (socket ≢ []) × Logs log (Bound socket ∷ []) bound × Watches false watch bound log')

-- ---- the connections

-- The sockets were made, and then the connections that came were served, many at once. The writer went on
-- with a journal, if there is one.
pub record IsServing {S : Type 0} (rules : Rules S) (socket : List ℕ) (watch : Desks) (limits : Limits) (writer : Option Writing) (how : Ending) (log log' : Log) (before after : S) : Type 0 where
  pub mid : Log
  pub path : socket ≢ []
  pub paths : HavePaths watch
  pub asked : Logs log (Bound socket ∷ watched watch) mid
  pub hosted : HasServedMany rules limits writer how mid log' before after

-- how a server ended whose connections ended so
abbrev pub hosted_by : Ending → Hosted
hosted_by ending.Done = hosted.Done
hosted_by ending.Stopped = hosted.Stopped
hosted_by ending.Memory = hosted.Memory
hosted_by ending.Journal = hosted.Journal
hosted_by ending.Socket = hosted.Socket

-- what a service did, by how it ended
module _ {S : Type 0} (rules : Rules S) where
  abbrev pub Serves : Hosted → List ℕ → Desks → Limits → Option Writing → Log → Log → S → S → Type 0
  Serves hosted.Done socket watch limits writer log log' before after = IsServing rules socket watch limits writer ending.Done log log' before after
  Serves hosted.Stopped socket watch limits writer log log' before after = IsServing rules socket watch limits writer ending.Stopped log log' before after
  Serves hosted.Memory socket watch limits writer log log' before after = IsServing rules socket watch limits writer ending.Memory log log' before after
  Serves hosted.Journal socket watch limits writer log log' before after = IsServing rules socket watch limits writer ending.Journal log log' before after
  Serves hosted.Socket socket watch limits writer log log' before after = HasNoSockets socket watch log log'
      ⊎ IsServing rules socket watch limits writer ending.Socket log log' before after
  Serves hosted.Config socket watch limits writer log log' before after = ⊥
  Serves hosted.Long socket watch limits writer log log' before after = ⊥
  Serves (hosted.Table f) socket watch limits writer log log' before after = ⊥
  Serves hosted.Reserve socket watch limits writer log log' before after = ⊥
  Serves hosted.Recovery socket watch limits writer log log' before after = ⊥

module _ {S : Type 0} (rules : Rules S) (is_new : List Tenant → S → Type 0) where
  -- The file gave a service, then a socket was made, and those of the operator that are wanted, and then
  -- the connections that came were served, many at once. One log has all acts, from the opening of
  -- the file to the last close.
  pub record HasServedAll (config socket : List ℕ) (watch : Desks) (limits : Limits) (how : Ending) (log log' : Log) : Type 0 where
    pub before : S
    pub after : S
    pub start : Log
    pub mid : Log
    pub begun : HasBegun is_new config log start before
    pub path : socket ≢ []
    pub paths : HavePaths watch
    pub asked : Logs start (Bound socket ∷ watched watch) mid
    pub hosted : HasServedMany rules limits None how mid log' before after

  -- there is a service, and a socket is missing
  pub record HasNoSocket (config socket : List ℕ) (watch : Desks) (log log' : Log) : Type 0 where
    pub before : S
    pub start : Log
    pub begun : HasBegun is_new config log start before
    pub asked : ((socket ≡ []) × Logs start [] log') ⊎ ((socket ≢ []) × Logs start (Unbound socket ∷ []) log')
        ⊎ ((bound : Log) × (socket ≢ []) × Logs start (Bound socket ∷ []) bound × Watches false watch bound log')

-- ---- the whole, by how it ended

module _ {S : Type 0} (rules : Rules S) (is_new : Option ℕ → List Tenant → S → Type 0) (reserve : Option ℕ) where
  abbrev pub Hosts : Hosted → List ℕ → List ℕ → Desks → Limits → Log → Log → Type 0
  Hosts hosted.Done config socket watch limits log log' = HasServedAll rules (is_new reserve) config socket watch limits ending.Done log log'
  Hosts hosted.Stopped config socket watch limits log log' = HasServedAll rules (is_new reserve) config socket watch limits ending.Stopped log log'
  Hosts hosted.Recovery config socket watch limits log log' = ⊥
  Hosts hosted.Journal config socket watch limits log log' = HasServedAll rules (is_new reserve) config socket watch limits ending.Journal log log'
  Hosts hosted.Socket config socket watch limits log log' = HasNoSocket rules (is_new reserve) config socket watch log log'
      ⊎ HasServedAll rules (is_new reserve) config socket watch limits ending.Socket log log'
  Hosts hosted.Config config socket watch limits log log' = Refuses is_new reserve hosted.Config config log log'
  Hosts hosted.Long config socket watch limits log log' = Refuses is_new reserve hosted.Long config log log'
  Hosts (hosted.Table f) config socket watch limits log log' = Refuses is_new reserve (hosted.Table f) config log log'
  Hosts hosted.Memory config socket watch limits log log' = Refuses is_new reserve hosted.Memory config log log'
      ⊎ HasServedAll rules (is_new reserve) config socket watch limits ending.Memory log log'
  Hosts hosted.Reserve config socket watch limits log log' = Refuses is_new reserve hosted.Reserve config log log'
