-- What holds of each run of `judyd serve`.
--     all-served       each job of a server has served connections, with a journal or without one, or says why not
--     full-exactly     `FULL` came to a tenant exactly for a new entry for which its quota had no room
--     crash-restores   a server that goes on with a journal survives a crash
--     served-well      of one that served all promises hold
--     keeps-promises   so each run keeps them
use Rattle.std.proofs.Common.{◌≡◌, ◌⊎◌, inl, inr, ℕ, Bool, true, false, List, [], ◌∷◌, ◌++◌, Option, Some, None, refl, sym, ◌∙◌, subst}
use Rattle.judy_command.specs.declared.words.Job.TheVariants as job
use Rattle.judy_command.specs.declared.words.Sync.{Sync as When}
use Rattle.judy_journal.specs.Writes.{Writing}
use Rattle.judy_many.specs.Books.{journal_of}
use Rattle.judy_many.specs.Changes.{exchanges}
use Rattle.judy_many.specs.Crowds.{HasServedMany}
use Rattle.judy_many.specs.Statuses.{Lasts}
use Rattle.judy_many.specs.Stories.{Story, changes_in, turns_in}
use Rattle.judy_many.specs.declared.network.Sync.{Sync}
use Rattle.judy_many.specs.declared.serve.Ending.{Ending}
use Rattle.judy_many.specs.declared.serve.Ending.TheVariants as ending
use Rattle.judy_many.specs.declared.serve.Limits.{Limits}
use Rattle.judy_model.specs.declared.quotas.Quota.{Quota}
use Rattle.judy_model.specs.declared.replies.Reply.{Reply}
use Rattle.judy_model.specs.Solo.{Exchanges, IsSolo, attempts_of, replies_of}
use Rattle.judy_model.specs.Tenant.{Attempt, State, attempt_step, replies_alone, state_alone}
use Rattle.judy_model.specs.WellFormed.{FullIsForNew}
use Rattle.judy_programs.specs.Asking.{Log}
use Rattle.judy_programs.specs.Hosting.{Desks, HasNoSockets, HasServedAll, IsServing, desks_at, hosted_by}
use Rattle.judy_programs.specs.Journaled.{HasServedOn}
use Rattle.judy_programs.specs.declared.socket.Hosted.{Hosted}
use Rattle.judy_programs.specs.declared.socket.Hosted.TheVariants as hosted
use Rattle.judy_recovery.specs.Whole.{Kept}
use Rattle.judy_server.specs.Crashes.{CrashesLoseNothing, HasCrashed, IsRestored}
use Rattle.judy_server.specs.Jobs.{HostsBy, ServesBy, limits_of, rule_of, sync_of}
use Rattle.judy_server.specs.Limits.{server_replay}
use Rattle.judy_server.specs.Rules.{server_rules}
use Rattle.judy_server.specs.Runs.{EveryRunKeepsPromises, IsDurable, IsFullExactly, IsServedWell, ServesWell, SurvivesCrashes}
use Rattle.judy_server.specs.Served.{IsNewService, seen_of}
use Rattle.judy_server.specs.Starts.{GoesOnWith, HasEndedSo, HasServedAny, IsPlayedWithin, IsUnserved, StartsBy}
use Rattle.judy_server.specs.Space.{AreMuch, IsMuch, NoTurnForMemory}
use Rattle.judy_server.specs.Tally.{Tallied}
use Rattle.judy_server.proofs.lemmas.Beginning.{start-goes-on}
use Rattle.judy_server.proofs.lemmas.Reserves.{never-memory}
use Rattle.judy_server.proofs.lemmas.Space.{server-is-bounded}
use Rattle.judy_server.proofs.lemmas.Starting.{served-alone, served-on, started-keeps}
use Rattle.judy_server.proofs.lemmas.Stays.{tenant-alone}

-- ---- connections were served, or not

module _ (has : List ℕ → Kept → Type 0) (secret config socket : List ℕ) (watch : Desks) (reserve : Option ℕ) (limits : Limits) (log log' : Log) where
  abbrev Ended : Option (List ℕ) → Hosted → Type 0
  Ended directory how = HasEndedSo has secret config socket watch reserve limits log log' directory how

  abbrev Unserved : Option (List ℕ) → Hosted → Type 0
  Unserved directory how = IsUnserved has secret config socket watch reserve limits log log' directory how

  alone-ended : (end : Ending) → HasServedAll server_rules (IsNewService secret reserve) config socket watch limits end log log'
      → Ended None (hosted_by end)
  unfolding served-alone
  alone-ended end h = (end, refl, served-alone secret config socket watch reserve limits end log log' h, (refl, refl, refl))

  on-ended : (directory : List ℕ) (end : Ending)
      → (h : HasServedOn server_rules server_replay (has directory) (IsNewService secret) reserve (hosted_by end) config socket watch limits log log')
      → IsServing server_rules socket watch limits (Some h.writer) end h.ready log' h.before h.after → Ended (Some directory) (hosted_by end)
  unfolding served-on
  on-ended directory end h s =
      let (stock, snapshot, segment, sum, resumed, first, tenants) =
      start-goes-on (has directory) secret reserve (hosted_by end) config socket watch limits log log' h in (
        end,
        refl,
        served-on (has directory) secret config socket watch reserve limits log log' (hosted_by end) end h s,
        record {
          kept = h.kept;
          read = h.read;
          writer = h.writer;
          writer_is = refl;
          stock = stock;
          snapshot_is = snapshot;
          segment_is = segment;
          sum_is = sum;
          resumed = resumed;
          first_is = first;
        },
      )

  -- each job of a server has served connections, with a journal or without one, or says why not
  pub all-served : (directory : Option (List ℕ)) (how : Hosted) → HostsBy has directory secret reserve how config socket watch limits log log'
      → Ended directory how ⊎ Unserved directory how
  all-served None hosted.Done h = inl (alone-ended ending.Done h)
  all-served None hosted.Stopped h = inl (alone-ended ending.Stopped h)
  all-served None hosted.Journal h = inl (alone-ended ending.Journal h)
  all-served None hosted.Memory (inl none) = inr (inl none)
  all-served None hosted.Memory (inr h) = inl (alone-ended ending.Memory h)
  all-served None hosted.Socket (inl none) = inr (inr (refl, none))
  all-served None hosted.Socket (inr h) = inl (alone-ended ending.Socket h)
  all-served None hosted.Recovery h = absurd h
  all-served None hosted.Config h = inr (inl h)
  all-served None hosted.Long h = inr (inl h)
  all-served None (hosted.Table f) h = inr (inl h)
  all-served None hosted.Reserve h = inr (inl h)
  all-served (Some directory) how (inl none) = inr (inl none)
  all-served (Some directory) how (inr (inl none)) = inr (inr (inl none))
  all-served (Some directory) how (inr (inr h)) = by how h
    where
      sockets : (h : HasServedOn server_rules server_replay (has directory) (IsNewService secret) reserve hosted.Socket config socket watch limits log log')
          → HasNoSockets socket watch h.ready log' ⊎ IsServing server_rules socket watch limits (Some h.writer) ending.Socket h.ready log' h.before h.after
          → Ended (Some directory) hosted.Socket ⊎ Unserved (Some directory) hosted.Socket
      sockets h (inl none) = inr (inr (inr (refl, h, none)))
      sockets h (inr s) = inl (on-ended directory ending.Socket h s)

      by : (how : Hosted) → HasServedOn server_rules server_replay (has directory) (IsNewService secret) reserve how config socket watch limits log log'
          → Ended (Some directory) how ⊎ Unserved (Some directory) how
      by hosted.Done h = inl (on-ended directory ending.Done h h.served)
      by hosted.Stopped h = inl (on-ended directory ending.Stopped h h.served)
      by hosted.Memory h = inl (on-ended directory ending.Memory h h.served)
      by hosted.Journal h = inl (on-ended directory ending.Journal h h.served)
      by hosted.Socket h = sockets h h.served
      by hosted.Config h = absurd h.served
      by hosted.Long h = absurd h.served
      by (hosted.Table f) h = absurd h.served
      by hosted.Reserve h = absurd h.served
      by hosted.Recovery h = absurd h.served

-- ---- what came as `FULL`

-- a reply is the first one of the step of its call, after the calls before it
reply-at : (quota : Quota) (earlier later : Exchanges) (a : Attempt) (r : Reply) (s : State)
    → replies_alone quota s (attempts_of (earlier ++ (a, r) ∷ later)) ≡ replies_of (earlier ++ (a, r) ∷ later)
    → (attempt_step quota (state_alone quota s (attempts_of earlier)) a).0 ≡ r
reply-at quota [] later a r s same = cc
reply-at quota (p ∷ earlier) later a r s same = reply-at quota earlier later a r (attempt_step quota s p.0).1 cc

pub full-exactly : FullIsForNew → (quota : Quota) (s : State) (pairs : Exchanges) (last : State) → IsSolo quota s pairs last → IsFullExactly quota s pairs
full-exactly law quota s pairs last solo earlier later a r e =
    let is = reply-at quota earlier later a r s (subst (λ ps. replies_alone quota s (attempts_of ps) ≡ replies_of ps) e solo.replies) in
    let (comes, stays) = law a.right quota (state_alone quota s (attempts_of earlier)) a.call in
    (λ full. comes.0 (is ∙ full), λ both. sym is ∙ comes.1 both)

-- ---- what all runs keep

module _ (lost : CrashesLoseNothing) (exact : FullIsForNew) (has : List ℕ → Kept → Type 0) where
  module _ (secret config socket : List ℕ) (watch : Desks) (reserve : Option ℕ) (limits : Limits) (log log' : Log) where
    -- a server that goes on with a journal survives a crash
    crash-restores : (directory : List ℕ) (rule : Sync) (end : Ending) (run : HasServedAny secret reserve config socket watch limits end log log')
        → limits.journal ≡ Some rule → GoesOnWith has secret config socket watch reserve limits log log' directory end run
        → SurvivesCrashes has secret config socket watch reserve limits log log' directory end run
    crash-restores directory rule end run is goes = record {
      goes_on = goes;
      rule = rule;
      rule_is = is;
      crash = λ story later restored joins crashed.
          subst Goal (sym goes.writer_is)
          (λ h story later restored joins crashed.
          lost goes.stock limits rule goes.writer end run.mid log' run.before run.after restored h is story later joins goes.resumed crashed)
          run.hosted story later restored joins crashed;
    }
      where
        Goal : Option Writing → Type 0
        Goal writer = (h : HasServedMany server_rules limits writer end run.mid log' run.before run.after) (story later : Story) (restored : Tallied)
            → h.story ≡ story ++ later → HasCrashed goes.stock (journal_of rule true goes.writer) story restored
            → (now : Tallied) × Lasts server_rules true run.before story now × IsRestored rule run.before story now restored

    durable : (directory : Option (List ℕ)) (w : When) → limits.journal ≡ rule_of directory w
        → (end : Ending) (run : HasServedAny secret reserve config socket watch limits end log log')
        → StartsBy has secret config socket watch reserve limits log log' directory end run
        → IsDurable has secret config socket watch reserve limits log log' directory end run
    durable None w is end run starts = starts
    durable (Some directory) w is end run starts = crash-restores directory (sync_of w) end run is starts

    -- of a server that served connections all promises hold
    pub served-well : (directory : Option (List ℕ)) (w : When) → limits.journal ≡ rule_of directory w → (how : Hosted)
        → HasEndedSo has secret config socket watch reserve limits log log' directory how
        → IsServedWell has secret config socket watch reserve limits log log' directory how
    served-well directory w is how (end, ended, run, starts) = record {
      end = end;
      ended = ended;
      run = run;
      tenants = (started-keeps secret reserve run.begun.opened.tenants run.fresh run.before run.begun.opened.fresh run.started).tenants
          ∙ run.begun.opened.fresh.tenants;
      bytes = run.hosted.served;
      alone = λ t stays. tenant-alone secret config socket watch reserve limits end log log' run t stays;
      full = λ t stays.
          full-exactly exact ((seen_of run.before).quotas t) ((seen_of run.before).states t) (exchanges t (turns_in run.hosted.story)) ((seen_of run.after).states t)
          (tenant-alone secret config socket watch reserve limits end log log' run t stays).solo;
      bounded = λ p q joins. server-is-bounded secret config socket watch reserve limits end log log' run p q joins;
      unrefused = λ megabytes wanted. subst (Reserved megabytes) (sym wanted) (never-memory secret config socket watch megabytes limits end log log') run;
      durable = durable directory w is end run starts;
    }
      where
        Reserved : ℕ → Option ℕ → Type 0
        Reserved megabytes taken = (h : HasServedAny secret taken config socket watch limits end log log') → IsPlayedWithin megabytes h.started
            → IsMuch megabytes h.begun.opened.tenants → AreMuch megabytes h.begun.opened.tenants (changes_in h.hosted.story)
            → NoTurnForMemory (turns_in h.hosted.story)

    pub serves-well : (check : Bool) (directory : Option (List ℕ)) (w : When) → limits.journal ≡ rule_of directory w → (how : Hosted)
        → ServesBy has check directory secret reserve how config socket watch limits log log'
        → ServesWell has secret config socket watch reserve limits log log' check directory how
    serves-well true directory w is how checks = checks
    serves-well false directory w is how hosts = elim (all-served has secret config socket watch reserve limits log log' directory how hosts) [
      | inl served ↦ inl (served-well directory w is how served)
      | inr none ↦ inr none
    ]

  -- each run keeps all promises
  pub keeps-promises : EveryRunKeepsPromises has
  keeps-promises (job.Serve config socket watch control clients tenant_clients share connections login idle turn reserve directory w segment new_journal check) status text from to log log' (inl done) =
      let (how, serves, is, told, same) = done.done in
      inr (
        done.secret,
        done.mid,
        how,
        done.drawn,
        serves-well done.secret config socket (desks_at watch control) reserve
            (limits_of clients tenant_clients share connections login idle turn (desks_at watch control) directory w) done.mid log' check directory w refl how serves,
        is,
        told,
        same,
      )
  keeps-promises (job.Serve config socket watch control clients tenant_clients share connections login idle turn reserve directory w segment new_journal check) status text from to log log' (inr none) = inl none
  keeps-promises (job.Run words batch) status text from to log log' h = tt
  keeps-promises (job.Compact directory) status text from to log log' h = tt
  keeps-promises (job.Repair directory sure drop_later) status text from to log log' h = tt
  keeps-promises (job.Journal directory tenant new check) status text from to log log' h = tt
