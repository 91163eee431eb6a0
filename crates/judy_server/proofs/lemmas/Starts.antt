-- What a job asks of the system, in the words of docs/PROMISES.md.
--     no-secret           without random bytes the status is 4, and nothing else is asked, read or
--                         written
--     run-asks-nothing    `run` asks the system for nothing but the secret
--     serve-says-nothing  `serve` reads and writes nothing on the standard streams
--     drawn-once          a job draws one secret, first of all, and is done with it
use Rattle.std.specs.Prelude.{◌≡◌, ℕ, Bool, List, [], ◌∷◌, Option, Some, codes}
use Rattle.judy_command.specs.declared.words.Sync.{Sync}
use Rattle.judy_command.specs.declared.words.Job.{Job}
use Rattle.judy_command.specs.declared.words.Job.TheVariants as job
use Rattle.judy_protocol.specs.Serving.{Wire}
use Rattle.judy_programs.specs.Asking.{Log, Logs}
use Rattle.judy_many.specs.Nets.Step.{Drawn, Undrawn}
use Rattle.judy_recovery.specs.Whole.{Kept}
use Rattle.judy_server.specs.Jobs.{HasDone, HasDoneDrawn, HasNoSecret}

-- without random bytes nothing is served
pub no-secret : (ended : ℕ) (line : Option (List ℕ)) (from to : Wire) (log log' : Log) → HasNoSecret ended line from to log log'
    → (ended ≡ 4) × (line ≡ Some (codes "judyd: random fault")) × (to ≡ from) × Logs log (Undrawn ∷ []) log'
no-secret ended line from to log log' h = (h.status, h.text, h.streams, h.asked)

-- whatever journal a directory may have
module _ (has : List ℕ → Kept → Type 0) where
  -- `run` opens no file and no socket
  pub run-asks-nothing : (secret : List ℕ) (words batch : Bool) (status : ℕ) (text : Option (List ℕ)) (from to : Wire) (log log' : Log)
      → HasDone has secret (job.Run words batch) status text from to log log' → log' ≡ log
  run-asks-nothing secret words batch status text from to log log' (how, has_run, is, told, same) = same

  -- `serve` neither reads standard input nor writes standard output
  pub serve-says-nothing : (secret config socket : List ℕ) (watch control : Option (List ℕ)) (clients : ℕ) (tenant_clients : Option ℕ) (share connections login : ℕ) (idle turn reserve : Option ℕ) (directory : Option (List ℕ)) (sync : Sync) (segment : ℕ) (new_journal check : Bool)
      (status : ℕ) (text : Option (List ℕ)) (from to : Wire) (log log' : Log)
      → HasDone has secret (job.Serve config socket watch control clients tenant_clients share connections login idle turn reserve directory sync segment new_journal check) status text from to log log' → to ≡ from
  serve-says-nothing secret config socket watch control clients tenant_clients share connections login idle turn reserve directory sync segment new_journal check status text from to log log' (hosted, serves, is, told, same) = same

  -- the first that is asked of the system is a secret, and the job is done with it
  pub drawn-once : (asked : Job) (status : ℕ) (text : Option (List ℕ)) (from to : Wire) (log log' : Log)
      → (h : HasDoneDrawn has asked status text from to log log')
      → Logs log (Drawn h.secret ∷ []) h.mid × HasDone has h.secret asked status text from to h.mid log'
  drawn-once asked status text from to log log' h = (h.drawn, h.done)
