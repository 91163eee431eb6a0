-- What the program does, by what its command line asks for.
use Rattle.std.specs.Prelude.{◌≡◌, ◌⊎◌, ◌==◌, ◌||◌, ℕ, Bool, true, false, List, [], ◌∷◌, Option, Some, None, codes, is_some, if◌then◌else◌}
use Rattle.judy_command.specs.declared.words.Job.{Job}
use Rattle.judy_command.specs.declared.words.Job.TheVariants as job
use Rattle.judy_command.specs.declared.words.Sync.{Sync as When}
use Rattle.judy_command.specs.declared.words.Sync.TheVariants as when
use Rattle.judy_protocol.specs.Serving.{Wire}
use Rattle.judy_protocol.specs.declared.gathering.Batch.{Batch}
use Rattle.judy_protocol.specs.declared.gathering.Batch.TheVariants as batches
use Rattle.judy_many.specs.Nets.Step.{Drawn, Undrawn}
use Rattle.judy_many.specs.declared.network.Sync.{Sync}
use Rattle.judy_many.specs.declared.network.Sync.TheVariants as sync
use Rattle.judy_many.specs.declared.serve.Limits.{Limits}
use Rattle.judy_programs.specs.Asking.{Log, Logs}
use Rattle.judy_programs.specs.Hosting.{Checks, Desks, Hosts, desks_at}
use Rattle.judy_programs.specs.Journaled.{ChecksJournaled, HostsJournaled}
use Rattle.judy_programs.specs.Program.{HasRun}
use Rattle.judy_programs.specs.Finish.{host_status, host_text, run_status, run_text}
use Rattle.judy_programs.specs.declared.program.Ran.{Ran}
use Rattle.judy_programs.specs.declared.socket.Hosted.{Hosted}
use Rattle.judy_recovery.specs.Whole.{Kept}
use Rattle.judy_server.specs.Limits.{server_replay}
use Rattle.judy_server.specs.Served.{IsServedStep, IsNewService, seen_of, held_words}
use Rattle.judy_server.specs.Rules.{server_rules}

-- when the journal is synced, if there is one
abbrev pub sync_of : When → Sync
sync_of when.Round = sync.Round
sync_of (when.Seconds n) = sync.Seconds n
sync_of when.Never = sync.Never

abbrev pub rule_of : Option (List ℕ) → When → Option Sync
rule_of None w = None
rule_of (Some directory) w = Some (sync_of w)

-- the most connections; the greatest number of the command line stands for no limit but that of a
-- number of 64 bits
abbrev pub connections_of : ℕ → ℕ
connections_of n = if n == 4294967295 then 18446744073709551615 else n

-- the limits of the command line; there are questions if a status socket or a control socket was asked
-- for
abbrev pub limits_of : ℕ → Option ℕ → ℕ → ℕ → ℕ → Option ℕ → Option ℕ → Desks → Option (List ℕ) → When → Limits
limits_of clients tenant_clients share connections login idle turn desks directory w = record {
  clients = clients;
  tenant_clients = tenant_clients;
  share = share;
  connections = connections_of connections;
  login = Some login;
  idle = idle;
  turn = turn;
  status = is_some desks.status || is_some desks.control;
  journal = rule_of directory w;
}

-- `--batch`: the answers to the lines of a read are written at once; otherwise each answer alone
abbrev pub batch_of : Bool → Batch
batch_of false = batches.EachReply
batch_of true = batches.EachRead

-- which answers a job writes at once to its standard output; `serve` writes none there
abbrev pub batch_in : Job → Batch
batch_in (job.Run words batch) = batch_of batch
batch_in (job.Serve config socket watch control clients tenant_clients share connections login idle turn reserve directory w segment new_journal check) = batches.EachReply
batch_in (job.Compact directory) = batches.EachReply
batch_in (job.Repair directory sure drop_later) = batches.EachReply
batch_in (job.Journal directory tenant new check) = batches.EachReply

-- the job is one of the two programs
abbrev pub IsProgram : Job → Type 0
IsProgram (job.Run words batch) = Unit {0}
IsProgram (job.Serve config socket watch control clients tenant_clients share connections login idle turn reserve directory w segment new_journal check) = Unit {0}
IsProgram (job.Compact directory) = ⊥
IsProgram (job.Repair directory sure drop_later) = ⊥
IsProgram (job.Journal directory tenant new check) = ⊥

-- The system gave no random bytes. Nothing else was asked of it, and nothing was read or written.
pub record HasNoSecret (ended : ℕ) (line : Option (List ℕ)) (from to : Wire) (log log' : Log) : Type 0 where
  pub asked : Logs log (Undrawn ∷ []) log'
  pub status : ended ≡ 4
  pub text : line ≡ Some (codes "judyd: random fault")
  pub streams : to ≡ from

-- the directory at a path may have a journal (`has`)
module _ (has : List ℕ → Kept → Type 0) where
  -- connections were served, with a journal if a directory is given
  abbrev pub HostsBy : Option (List ℕ) → List ℕ → Option ℕ → Hosted → List ℕ → List ℕ → Desks → Limits → Log → Log → Type 0
  HostsBy None secret reserve hosted config socket watch limits log log' =
      Hosts server_rules (IsNewService secret) reserve hosted config socket watch limits log log'
  HostsBy (Some directory) secret reserve hosted config socket watch limits log log' =
      HostsJournaled server_rules server_replay (has directory) (IsNewService secret) reserve hosted config socket watch limits log log'

  -- the file was only checked, and the journal if a directory is given
  abbrev pub ChecksBy : Option (List ℕ) → List ℕ → Option ℕ → Hosted → List ℕ → Log → Log → Type 0
  ChecksBy None secret reserve hosted config log log' = Checks (IsNewService secret) reserve hosted config log log'
  ChecksBy (Some directory) secret reserve hosted config log log' = ChecksJournaled server_replay (has directory) (IsNewService secret) reserve hosted config log log'

  -- Connections were served, or the file was only checked. First this many megabytes were taken for the
  -- arrays, if so many are wanted.
  abbrev pub ServesBy : Bool → Option (List ℕ) → List ℕ → Option ℕ → Hosted → List ℕ → List ℕ → Desks → Limits → Log → Log → Type 0
  ServesBy false directory secret reserve hosted config socket watch limits log log' =
      HostsBy directory secret reserve hosted config socket watch limits log log'
  ServesBy true directory secret reserve hosted config socket watch limits log log' = ChecksBy directory secret reserve hosted config log log'

  -- What the job did with a secret: its status and its line on standard error, if any, follow from how it ended for
  -- exactly this input. `from` and `to` are what the standard streams showed before and after.
  abbrev pub HasDone : List ℕ → Job → ℕ → Option (List ℕ) → Wire → Wire → Log → Log → Type 0
  HasDone secret (job.Run words batch) status text from to log log' = (ran : Ran)
      × HasRun IsServedStep seen_of held_words (IsNewService secret None) words (batch_of batch) ran from to
      × (status ≡ run_status ran) × (text ≡ run_text ran) × (log' ≡ log)
  HasDone secret (job.Serve config socket watch control clients tenant_clients share connections login idle turn reserve directory w segment new_journal check) status text from to log log' = (hosted : Hosted)
      × ServesBy check directory secret reserve hosted config socket (desks_at watch control)
      (limits_of clients tenant_clients share connections login idle turn (desks_at watch control) directory w) log log'
      × (status ≡ host_status hosted) × (text ≡ host_text hosted) × (to ≡ from)
  HasDone secret (job.Compact directory) status text from to log log' = ⊥
  HasDone secret (job.Repair directory sure drop_later) status text from to log log' = ⊥
  HasDone secret (job.Journal directory tenant new check) status text from to log log' = ⊥

  -- The system drew a secret, once, and the job was done with this secret.
  pub record HasDoneDrawn (job : Job) (status : ℕ) (text : Option (List ℕ)) (from to : Wire) (log log' : Log) : Type 0 where
    pub secret : List ℕ
    pub mid : Log
    pub drawn : Logs log (Drawn secret ∷ []) mid
    pub done : HasDone secret job status text from to mid log'

  -- What the program does for a job.
  abbrev pub Does : Job → ℕ → Option (List ℕ) → Wire → Wire → Log → Log → Type 0
  Does job status text from to log log' = HasDoneDrawn job status text from to log log' ⊎ HasNoSecret status text from to log log'
