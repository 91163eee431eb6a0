-- What holds of each run of `judyd serve`, with a journal or without one, whatever the system answers. This is the
-- headline, in one statement.
--     IsFullExactly quota s pairs   `FULL` came exactly for a new entry for which the quota had no room
--     SurvivesCrashes ..            with a journal: what a new service restores after a crash at any moment
--     IsServedWell ..               connections were served, and all that is promised to tenants holds of this run
--     ServesWell ..                 so it is; or no connection was served, and the log says why
--     KeepsPromises job ..          so it is for the job of a command line; the first that is asked is a secret
--     EveryRunKeepsPromises has     each run of the program is so
use Rattle.std.specs.Prelude.{◌≡◌, ◌↔◌, ◌⊎◌, ℕ, Bool, true, false, not, List, [], ◌∷◌, ◌++◌, IsTrue, Option, Some, None}
use Rattle.judy_command.specs.declared.words.Job.{Job}
use Rattle.judy_command.specs.declared.words.Job.TheVariants as job
use Rattle.judy_model.specs.declared.quotas.Quota.{Quota}
use Rattle.judy_model.specs.declared.replies.Reply.{Reply}
use Rattle.judy_model.specs.declared.replies.Reply.TheVariants as reply
use Rattle.judy_model.specs.Solo.{Exchanges, attempts_of, kept}
use Rattle.judy_model.specs.Tenant.{Attempt, State, asks_for_new, has_room, state_alone}
use Rattle.judy_many.specs.Books.{journal_of}
use Rattle.judy_many.specs.Changes.{IsAloneFor, exchanges}
use Rattle.judy_many.specs.Lives.{IsServed}
use Rattle.judy_many.specs.Nets.Step.{Drawn}
use Rattle.judy_many.specs.Statuses.{Lasts, Passes}
use Rattle.judy_many.specs.Stories.{Story, changes_in, own, turns_in}
use Rattle.judy_many.specs.declared.network.Sync.{Sync}
use Rattle.judy_many.specs.declared.serve.Ending.{Ending}
use Rattle.judy_many.specs.declared.serve.Limits.{Limits}
use Rattle.judy_programs.specs.Asking.{Log, Logs}
use Rattle.judy_programs.specs.Finish.{host_status, host_text}
use Rattle.judy_programs.specs.Hosting.{Desks, desks_at, hosted_by}
use Rattle.judy_programs.specs.declared.socket.Hosted.{Hosted}
use Rattle.judy_protocol.specs.Serving.{Wire}
use Rattle.judy_recovery.specs.Whole.{Kept}
use Rattle.judy_server.specs.Crashes.{HasCrashed, IsRestored}
use Rattle.judy_server.specs.Jobs.{ChecksBy, Does, HasNoSecret, limits_of}
use Rattle.judy_server.specs.Reloads.{StaysAt}
use Rattle.judy_server.specs.Rules.{server_rules}
use Rattle.judy_server.specs.Served.{seen_of}
use Rattle.judy_server.specs.Space.{AreMuch, IsBoundedBy, IsMuch, NoTurnForMemory, granted_after}
use Rattle.judy_server.specs.Starts.{GoesOnWith, HasServedAny, IsPlayedWithin, IsUnserved, StartsBy, granted_first}
use Rattle.judy_server.specs.Tally.{Tallied}

-- Among the calls that were not refused for memory `FULL` came exactly for those that asked for a new entry for which the
-- quota had no room, by the entries that the tenant had then.
abbrev pub IsFullExactly : Quota → State → Exchanges → Type 0
IsFullExactly quota s pairs = (earlier later : Exchanges) (a : Attempt) (r : Reply) → kept pairs ≡ earlier ++ (a, r) ∷ later
    → let now = state_alone quota s (attempts_of earlier) in
    (r ≡ reply.Full) ↔ (IsTrue (asks_for_new a.right now a.call) × IsTrue (not (has_room quota now a.call)))

-- the directory at a path may have a journal (`has`)
module _ (has : List ℕ → Kept → Type 0) where
  -- ---- connections were served

  module _ (secret config socket : List ℕ) (watch : Desks) (reserve : Option ℕ) (limits : Limits) (log log' : Log) where
    -- A server goes on with the journal of this directory, and the machine crashes after any part of its story. A new
    -- service that begins with all records that are found in the files that are left has the arrays of one moment of
    -- this part. Where each round is synced, that moment comes after all lines that were answered.
    pub record SurvivesCrashes (directory : List ℕ) (end : Ending) (run : HasServedAny secret reserve config socket watch limits end log log') : Type 0 where
      pub goes_on : GoesOnWith has secret config socket watch reserve limits log log' directory end run
      pub rule : Sync
      pub rule_is : limits.journal ≡ Some rule
      pub crash : (story later : Story) (restored : Tallied) → run.hosted.story ≡ story ++ later
          → HasCrashed goes_on.stock (journal_of rule true goes_on.writer) story restored
          → (now : Tallied) × Lasts server_rules true run.before story now × IsRestored rule run.before story now restored

    -- without a journal serving begins with the new service, in which no tenant has an entry, and nothing is kept
    abbrev pub IsDurable : Option (List ℕ) → (end : Ending) → HasServedAny secret reserve config socket watch limits end log log' → Type 0
    IsDurable None end run = StartsBy has secret config socket watch reserve limits log log' None end run
    IsDurable (Some directory) end run = SurvivesCrashes directory end run

    -- Connections were served. All of this is said of one story: what the system answered, the lines, and the tables
    -- that were put in force, in one order.
    pub record IsServedWell (directory : Option (List ℕ)) (how : Hosted) : Type 0 where
      pub end : Ending
      pub ended : hosted_by end ≡ how
      -- which file was opened, which sockets were made, and that nothing else was asked before; all that is said of
      -- connections, their order and their ends is in `run.hosted` (`HasServedMany`), and that each `ERR MEMORY` has a cause
      pub run : HasServedAny secret reserve config socket watch limits end log log'
      -- the tenants are those of the file, with their quotas
      pub tenants : run.before.held.tenants ≡ run.begun.opened.tenants
      -- Each connection: what was written to it are the answers to the lines that it gave, in order and nothing else;
      -- all of them, if it was closed in order.
      pub bytes : (n : ℕ) → IsServed (own n run.hosted.story)
      -- Each tenant that each new table leaves in its place, with its quota: its replies over all lines of all
      -- connections, without those refused for memory or for the journal, are those that it would get alone, from the
      -- arrays that it had at the start. No other server that agrees on them would answer otherwise.
      pub alone : (t : ℕ) → StaysAt t run.before.held.tenants (changes_in run.hosted.story)
          → IsAloneFor t (seen_of run.before) (turns_in run.hosted.story) (seen_of run.after)
      -- `FULL` came to it exactly for a new entry for which its quota had no room
      pub full : (t : ℕ) → StaysAt t run.before.held.tenants (changes_in run.hosted.story)
          → IsFullExactly ((seen_of run.before).quotas t) ((seen_of run.before).states t) (exchanges t (turns_in run.hosted.story))
      -- at each moment the words of blocks are bounded by the quotas of the tables so far
      pub bounded : (p q : Story) → run.hosted.story ≡ p ++ q
          → (mid : Tallied) × Passes server_rules [] run.before p mid
          × IsBoundedBy (granted_after (granted_first run.started) run.before.held.tenants (changes_in p)) run.fresh.held.region mid.held
          × Passes server_rules p mid q run.after
      -- with `--reserve` of enough for each table no call is refused for memory
      pub unrefused : (megabytes : ℕ) → reserve ≡ Some megabytes → IsPlayedWithin megabytes run.started
          → IsMuch megabytes run.begun.opened.tenants → AreMuch megabytes run.begun.opened.tenants (changes_in run.hosted.story)
          → NoTurnForMemory (turns_in run.hosted.story)
      -- with a journal: what a new service restores after a crash at any moment
      pub durable : IsDurable directory end run

    -- ---- or not

    -- With `--check` no connection is served: only the file is looked at, and the journal. Otherwise connections were
    -- served so; or none was, and the log has all that was asked of the system.
    abbrev pub ServesWell : Bool → Option (List ℕ) → Hosted → Type 0
    ServesWell false directory how = IsServedWell directory how ⊎ IsUnserved has secret config socket watch reserve limits log log' directory how
    ServesWell true directory how = ChecksBy has directory secret reserve how config log log'

  -- ---- the job of a command line

  -- The first that was asked of the system is a secret. It gave none, and nothing else was asked. Or a server ran with
  -- it; the status and the line on standard error say how it ended, and standard output shows nothing.
  abbrev pub KeepsPromises : Job → ℕ → Option (List ℕ) → Wire → Wire → Log → Log → Type 0
  KeepsPromises (job.Serve config socket watch control clients tenant_clients share connections login idle turn reserve directory w segment new_journal check) status text from to log log' = HasNoSecret status text from to log log'
      ⊎ ((secret : List ℕ) × (mid : Log) × (hosted : Hosted) × Logs log (Drawn secret ∷ []) mid
      × ServesWell secret config socket (desks_at watch control) reserve
      (limits_of clients tenant_clients share connections login idle turn (desks_at watch control) directory w) mid log' check directory hosted
      × (status ≡ host_status hosted) × (text ≡ host_text hosted) × (to ≡ from))
  KeepsPromises (job.Run words batch) status text from to log log' = Unit {0}
  KeepsPromises (job.Compact directory) status text from to log log' = Unit {0}
  KeepsPromises (job.Repair directory sure drop_later) status text from to log log' = Unit {0}
  KeepsPromises (job.Journal directory tenant new check) status text from to log log' = Unit {0}

  -- So it is for whatever the program does (`Does`), before and after any log.
  abbrev pub EveryRunKeepsPromises : Type 0
  EveryRunKeepsPromises = (asked : Job) (status : ℕ) (text : Option (List ℕ)) (from to : Wire) (log log' : Log)
      → Does has asked status text from to log log' → KeepsPromises asked status text from to log log'
