-- The status that the program ends with, by what its command line asks for.
use Rattle.std.specs.Prelude.{◌≡◌, ◌⊎◌, ℕ, Bool, true, false, List, [], codes, Option, Some, None, Result, Ok, Err}
use Rattle.judy_command.specs.declared.words.Job.{Job}
use Rattle.judy_command.specs.declared.words.Job.TheVariants as job
use Rattle.judy_command.specs.declared.words.Refusal.{Refusal}
use Rattle.judy_command.specs.declared.words.Refusal.TheVariants as refusal
use Rattle.judy_programs.specs.Asking.{Log}
use Rattle.judy_programs.specs.Finish.{host_status, host_text, run_status, run_text}
use Rattle.judy_programs.specs.declared.program.Ran.{Ran}
use Rattle.judy_programs.specs.declared.socket.Hosted.{Hosted}
use Rattle.judy_programs.specs.declared.socket.Hosted.TheVariants as hosted
use Rattle.judy_protocol.specs.Serving.{Wire}
use Rattle.judy_recovery.specs.Whole.{Kept}
use Rattle.judy_server.specs.Runs.{KeepsPromises}
use Rattle.judy_upkeep.specs.declared.compacting.Compacted.{Compacted}
use Rattle.judy_upkeep.specs.declared.compacting.Uncompacted.{Uncompacted}
use Rattle.judy_upkeep.specs.declared.compacting.Uncompacted.TheVariants as uncompacted
use Rattle.judy_upkeep.specs.declared.printing.Unprinted.{Unprinted}
use Rattle.judy_upkeep.specs.declared.printing.Unprinted.TheVariants as unprinted

-- 0 for help and the version, 2 for a command line that the program does not understand, and 4 if
-- memory runs out
abbrev pub refusal_status : Refusal → ℕ
refusal_status (refusal.Help text) = 0
refusal_status (refusal.Usage text) = 2
refusal_status refusal.Memory = 4

-- 0 if a journal was compacted or printed, 3 if it is refused, and 4 if memory runs out or the output takes no
-- more
abbrev pub IsUpkept : ℕ → Type 0
IsUpkept status = (status ≡ 0) ⊎ (status ≡ 3) ⊎ (status ≡ 4)

-- why a journal was not compacted, by the status
abbrev pub fault_status : Uncompacted → ℕ
fault_status (uncompacted.Journal fault) = 3
fault_status (uncompacted.Disk fault) = 3
fault_status uncompacted.Memory = 4
fault_status uncompacted.Left = 3

abbrev pub compaction_status : Result Compacted Uncompacted → ℕ
compaction_status (Ok done) = 0
compaction_status (Err why) = fault_status why

-- why a journal was not printed whole, by the status
abbrev pub print_status : Result (Unit {0}) Unprinted → ℕ
print_status (Ok done) = 0
print_status (Err unprinted.Write) = 4
print_status (Err (unprinted.Journal fault)) = 3

-- whether the job serves a socket
abbrev pub serves_socket : Job → Bool
serves_socket (job.Serve config socket watch control clients tenant_clients share connections login idle turn reserve journal sync segment new_journal check) = true
serves_socket (job.Run words batch) = false
serves_socket (job.Compact directory) = false
serves_socket (job.Repair directory sure drop_later) = false
serves_socket (job.Journal directory tenant new check) = false

-- the same, and 1 if a repair would cut something off, and did not
abbrev pub IsRepaired : Bool → ℕ → Type 0
IsRepaired sure status = IsUpkept status ⊎ ((sure ≡ false) × (status ≡ 1))

-- the status, and the line on standard error, if any, are those of a way in which the job can end
abbrev pub HasEnded : Job → ℕ → Option (List ℕ) → Type 0
HasEnded (job.Run words batch) status text = (ran : Ran) × (status ≡ run_status ran) × (text ≡ run_text ran)
HasEnded (job.Serve config socket watch control clients tenant_clients share connections login idle turn reserve journal sync segment new_journal check) status text =
    (hosted : Hosted) × (status ≡ host_status hosted) × (text ≡ host_text hosted)
HasEnded (job.Compact directory) status text = IsUpkept status × (text ≡ None)
HasEnded (job.Repair directory sure drop_later) status text = IsRepaired sure status × (text ≡ None)
HasEnded (job.Journal directory tenant new check) status text = IsUpkept status × (text ≡ None)

-- or the system gave no secret
abbrev pub IsFinished : Job → ℕ → Option (List ℕ) → Type 0
IsFinished job status text = HasEnded job status text ⊎ ((status ≡ 4) × (text ≡ Some (codes "judyd: random fault")))

-- the status is that of the job that was asked for, or of the reason why there is none
abbrev pub IsObeyed : Result Job Refusal → ℕ → Type 0
IsObeyed (Ok asked) status = (text : Option (List ℕ)) × IsFinished asked status text
IsObeyed (Err why) status = status ≡ refusal_status why

-- ---- the promises of a server, to the end of the program

-- after the job the status stays, or the job ended well and then its journal could not be secured
abbrev pub IsSecured : ℕ → ℕ → Type 0
IsSecured ended status = (status ≡ ended) ⊎ ((ended ≡ 0) × (status ≡ host_status hosted.Journal))

-- the directory at a path may have a journal (`has`)
module _ (has : List ℕ → Kept → Type 0) where
  -- The job was done over a system of which nothing was asked before. A server kept all promises to its tenants and
  -- connections. Then its journal was secured.
  pub record HasDoneAll (asked : Job) (status : ℕ) : Type 0 where
    pub ended : ℕ
    pub text : Option (List ℕ)
    pub from : Wire
    pub to : Wire
    pub log : Log
    pub promises : KeepsPromises has asked ended text from to (Some []) log
    pub last : IsSecured ended status

  -- so it is for each program that serves
  abbrev pub KeepsAll : Result Job Refusal → ℕ → Type 0
  KeepsAll (Ok (job.Serve config socket watch control clients tenant_clients share connections login idle turn reserve journal sync segment new_journal check)) status =
      HasDoneAll (job.Serve config socket watch control clients tenant_clients share connections login idle turn reserve journal sync segment new_journal check) status
  KeepsAll (Ok (job.Run words batch)) status = Unit {0}
  KeepsAll (Ok (job.Compact directory)) status = Unit {0}
  KeepsAll (Ok (job.Repair directory sure drop_later)) status = Unit {0}
  KeepsAll (Ok (job.Journal directory tenant new check)) status = Unit {0}
  KeepsAll (Err why) status = Unit {0}
