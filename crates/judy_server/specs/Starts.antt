-- A server of a table's file, with a journal or without one: how it starts, and why it does not.
--     HasStarted fresh service  the service with which serving begins is a new one, or one that has played a journal
--     granted_first start       the most words that the quotas allow where serving begins
--     HasServedAny ..           a server of a table's file served connections, with a journal or without one
--     GoesOnWith directory run  it goes on with the journal of this directory
--     StartsBy directory run    so it is if a directory is given; otherwise it starts with no arrays, and has no journal
--     IsUnserved ..             no connection was served, and why
use Rattle.std.proofs.Common.{inl, inr}
use Rattle.std.specs.Prelude.{◌≡◌, ◌≢◌, ◌⊎◌, ◌<◌, ◌*◌, ℕ, List, [], ◌∷◌, Option, Some, None, max}
use Rattle.judy_journal.specs.Journals.{Commit}
use Rattle.judy_journal.specs.Writes.{Writing, all_records}
use Rattle.judy_many.specs.Crowds.{HasServedMany}
use Rattle.judy_many.specs.Nets.Step.{Bound}
use Rattle.judy_many.specs.declared.serve.Ending.{Ending}
use Rattle.judy_many.specs.declared.serve.Limits.{Limits}
use Rattle.judy_programs.specs.Asking.{Log, Logs}
use Rattle.judy_programs.specs.Hosting.{Desks, HasBegun, HasNoSocket, HasNoSockets, HavePaths, Refuses, hosted_by, watched}
use Rattle.judy_programs.specs.Journaled.{HasMade, HasNoJournal, HasServedOn}
use Rattle.judy_programs.specs.declared.socket.Hosted.{Hosted}
use Rattle.judy_programs.specs.declared.socket.Hosted.TheVariants as hosted
use Rattle.judy_recovery.specs.Whole.{Kept, segment_before}
use Rattle.judy_recovery.specs.declared.resuming.Resumed.{Resumed}
use Rattle.judy_tenants.specs.Held.{words_for}
use Rattle.judy_server.specs.Crashes.{HasBegunWith, HasResumed, Stock}
use Rattle.judy_server.specs.Limits.{server_replay}
use Rattle.judy_server.specs.Rules.{server_rules}
use Rattle.judy_server.specs.Served.{IsNewService}
use Rattle.judy_server.specs.Tally.{Tallied}

-- ---- the service with which serving begins

-- a journal was played on this new service, which is now this one
abbrev pub HasPlayed : Tallied → Tallied → Type 0
HasPlayed fresh service = (records : Commit) × (h : HasBegunWith records service) × (h.first ≡ fresh)

-- serving begins with the new service, or with the one that has played a journal
abbrev pub HasStarted : Tallied → Tallied → Type 0
HasStarted fresh service = (service ≡ fresh) ⊎ HasPlayed fresh service

-- what the quotas allow where serving begins: what those of the table do; with a journal, or the most words that were
-- live at once while it was played
abbrev pub granted_first : {fresh service : Tallied} → HasStarted fresh service → ℕ
granted_first {fresh} {service} (inl same) = words_for service.held.tenants
granted_first {fresh} {service} (inr played) = max service.held.peak (words_for service.held.tenants)

-- of each 128 words that were taken with so many megabytes fewer than one was live at once while a journal was
-- played; without a journal none was played
abbrev pub IsPlayedWithin : {fresh service : Tallied} → ℕ → HasStarted fresh service → Type 0
IsPlayedWithin {fresh} {service} megabytes (inl same) = Unit {0}
IsPlayedWithin {fresh} {service} megabytes (inr played) = service.held.peak < 1024 * megabytes

-- ---- a server, whatever its start

-- nothing was asked between the start of the service and that of the sockets; with a journal, at most that its next
-- segment is begun
abbrev pub IsReady : Option Writing → Log → Log → Type 0
IsReady None start ready = ready ≡ start
IsReady (Some w) start ready = (at : Resumed) × HasMade at w start ready

-- A server of a table's file served connections, with a journal or without one. `fresh` is the new service of that
-- table, and serving began with `before`.
pub record HasServedAny (secret : List ℕ) (reserve : Option ℕ) (config socket : List ℕ) (watch : Desks) (limits : Limits) (how : Ending) (log log' : Log) : Type 0 where
  pub fresh : Tallied
  pub before : Tallied
  pub after : Tallied
  pub start : Log
  pub ready : Log
  pub mid : Log
  pub writer : Option Writing
  pub begun : HasBegun (IsNewService secret reserve) config log start fresh
  pub started : HasStarted fresh before
  pub is_ready : IsReady writer start ready
  pub path : socket ≢ []
  pub paths : HavePaths watch
  pub asked : Logs ready (Bound socket ∷ watched watch) mid
  pub hosted : HasServedMany server_rules limits writer how mid log' before after

-- the directory at a path may have a journal (`has`)
module _ (has : List ℕ → Kept → Type 0) (secret config socket : List ℕ) (watch : Desks) (reserve : Option ℕ) (limits : Limits) (log log' : Log) where
  -- A server goes on with the journal of this directory. The new service has played all of it, its snapshot and the
  -- whole files behind it, and serving began with this service. The writer goes on behind these files.
  pub record GoesOnWith (directory : List ℕ) (end : Ending) (run : HasServedAny secret reserve config socket watch limits end log log') : Type 0 where
    pub kept : Kept
    pub read : has directory kept
    pub writer : Writing
    pub writer_is : run.writer ≡ Some writer
    pub stock : Stock
    pub snapshot_is : stock.snapshot ≡ all_records kept.unpacked
    pub segment_is : stock.segment ≡ segment_before kept.snapshot
    pub sum_is : stock.sum ≡ kept.sum
    pub resumed : HasResumed stock writer run.before
    pub first_is : resumed.started.first ≡ run.fresh

  -- if a directory is given; otherwise serving begins with the new service, and there is no journal
  abbrev pub StartsBy : Option (List ℕ) → (end : Ending) → HasServedAny secret reserve config socket watch limits end log log' → Type 0
  StartsBy None end run = (same : run.before ≡ run.fresh) × (run.started ≡ inl same) × (run.writer ≡ None)
  StartsBy (Some directory) end run = GoesOnWith directory end run

  -- a server ended so
  abbrev pub HasEndedSo : Option (List ℕ) → Hosted → Type 0
  HasEndedSo directory how = (end : Ending) × (hosted_by end ≡ how) × (run : HasServedAny secret reserve config socket watch limits end log log')
      × StartsBy directory end run

  -- No connection was served. Each case has all that was asked of the system: the file gives no service (`Refuses`); its
  -- journal can't be gone on with (`HasNoJournal`); or a socket can't be made, with a journal after it was played.
  abbrev pub IsUnserved : Option (List ℕ) → Hosted → Type 0
  IsUnserved None how = Refuses (IsNewService secret) reserve how config log log'
      ⊎ ((how ≡ hosted.Socket) × HasNoSocket server_rules (IsNewService secret reserve) config socket watch log log')
  IsUnserved (Some directory) how = Refuses (IsNewService secret) reserve how config log log'
      ⊎ HasNoJournal server_rules server_replay (has directory) (IsNewService secret) reserve how config log log'
      ⊎ ((how ≡ hosted.Socket)
      × (on : HasServedOn server_rules server_replay (has directory) (IsNewService secret) reserve hosted.Socket config socket watch limits log log')
      × HasNoSockets socket watch on.ready log')
