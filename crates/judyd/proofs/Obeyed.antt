-- What the program did for a job is one of the ways in which the job can end, or it had no secret.
use Rattle.std.proofs.Common.{ℕ, List, Option, ◌⊎◌, inl, inr}
use Rattle.judy_command.specs.declared.words.Job.{Job}
use Rattle.judy_command.specs.declared.words.Job.TheVariants as job
use Rattle.judy_protocol.specs.Serving.{Wire}
use Rattle.judy_programs.specs.Asking.{Log}
use Rattle.judy_recovery.specs.Whole.{Kept}
use Rattle.judy_server.specs.Jobs.{Does, HasDone}
use Rattle.judyd.specs.Obeying.{HasEnded, IsFinished}

module _ (has : List ℕ → Kept → Type 0) where
  ended : (secret : List ℕ) (j : Job) (status : ℕ) (text : Option (List ℕ)) (from to : Wire) (log log' : Log)
      → HasDone has secret j status text from to log log' → HasEnded j status text
  ended secret (job.Run words batch) status text from to log log' h = (h.0, h.2, h.3)
  ended secret (job.Serve config socket watch control clients tenant_clients share connections login idle turn reserve journal sync segment new_journal check) status text from to log log' h = (h.0, h.2, h.3)
  ended secret (job.Compact directory) status text from to log log' h = absurd h
  ended secret (job.Repair directory sure drop_later) status text from to log log' h = absurd h
  ended secret (job.Journal directory tenant new check) status text from to log log' h = absurd h

  pub finished : (j : Job) (status : ℕ) (text : Option (List ℕ)) (from to : Wire) (log log' : Log)
      → Does has j status text from to log log' → IsFinished j status text
  finished j status text from to log log' (inl done) = inl (ended done.secret j status text from to done.mid log' done.done)
  finished j status text from to log log' (inr none) = inr (none.status, none.text)
