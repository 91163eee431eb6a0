-- What the program tells, in the words of docs/PROMISES.md.
--     well-is-silent     status 0 comes without a line on standard error
--     faults-are-told    any other status of a program comes with a line; a refused journal's is the system's
use Rattle.std.proofs.Common.{◌≡◌, ◌∙◌, ◌⊎◌, inl, inr, ℕ, List, Option, Some, None, sym, refl, arith}
use Rattle.std.specs.Prelude.{◌≢◌, codes}
use Rattle.judy_command.specs.declared.words.Job.{Job}
use Rattle.judy_command.specs.declared.words.Job.TheVariants as job
use Rattle.judy_protocol.specs.declared.connection.End.TheVariants as ends
use Rattle.judy_programs.specs.Finish.{fault_text, host_status, host_text, run_status, run_text}
use Rattle.judy_programs.specs.declared.program.Ran.{Ran}
use Rattle.judy_programs.specs.declared.program.Ran.TheVariants as ran
use Rattle.judy_programs.specs.declared.socket.Hosted.{Hosted}
use Rattle.judy_programs.specs.declared.socket.Hosted.TheVariants as host
use Rattle.judy_server.specs.Jobs.{IsProgram}
use Rattle.judyd.specs.Obeying.{IsFinished}

-- ---- by how a job ended

run-silent : (how : Ran) → run_status how ≡ 0 → run_text how ≡ None
run-silent (ran.Served ends.Quit) e = refl
run-silent (ran.Served ends.End) e = refl
run-silent other e = absurd (omega (arith, e))

run-told : (how : Ran) → run_status how ≢ 0 → (line : List ℕ) × run_text how ≡ Some line
run-told (ran.Served ends.Quit) h = absurd (h refl)
run-told (ran.Served ends.End) h = absurd (h refl)
run-told (ran.Served ends.ReadFault) h = (codes "judyd: read fault", refl)
run-told (ran.Served ends.WriteFault) h = (codes "judyd: write fault", refl)
run-told (ran.Served ends.Limit) h = (codes "judyd: read limit", refl)
run-told (ran.Table f) h = (fault_text f, refl)
run-told ran.Cut h = (codes "judyd: table: Cut", refl)
run-told ran.Long h = (codes "judyd: table: Long", refl)
run-told ran.Memory h = (codes "judyd: memory", refl)
run-told ran.Read h = (codes "judyd: read fault", refl)
run-told ran.Write h = (codes "judyd: write fault", refl)

host-silent : (how : Hosted) → host_status how ≡ 0 → host_text how ≡ None
host-silent host.Done e = refl
host-silent host.Stopped e = refl
host-silent other e = absurd (omega (arith, e))

-- a journal that cannot be gone on with is told by the system's line alone, with its file and its byte
host-told : (how : Hosted) → host_status how ≢ 0 → ((line : List ℕ) × host_text how ≡ Some line) ⊎ ((host_status how ≡ 3) × (host_text how ≡ None))
host-told host.Done h = absurd (h refl)
host-told host.Stopped h = absurd (h refl)
host-told host.Config h = inl (codes "judyd: config fault", refl)
host-told host.Long h = inl (codes "judyd: table: Long", refl)
host-told (host.Table f) h = inl (fault_text f, refl)
host-told host.Memory h = inl (codes "judyd: memory", refl)
host-told host.Reserve h = inl (codes "judyd: memory: no memory for --reserve", refl)
host-told host.Socket h = inl (codes "judyd: socket fault", refl)
host-told host.Recovery h = inr (refl, refl)
host-told host.Journal h = inl (codes "judyd: journal fault", refl)

-- ---- by what the program tells

pub well-is-silent : (j : Job) (status : ℕ) (text : Option (List ℕ)) → IsFinished j status text → status ≡ 0 → text ≡ None
well-is-silent (job.Run words batch) status text (inl (how, is, told)) e = told ∙ run-silent how (sym is ∙ e)
well-is-silent (job.Serve config socket watch control clients tenant_clients share connections login idle turn reserve journal sync segment new_journal check) status text (inl (how, is, told)) e =
    told ∙ host-silent how (sym is ∙ e)
well-is-silent (job.Compact directory) status text (inl (ended, none)) e = none
well-is-silent (job.Repair directory sure drop_later) status text (inl (ended, none)) e = none
well-is-silent (job.Journal directory tenant new check) status text (inl (ended, none)) e = none
well-is-silent j status text (inr (four, line)) e = absurd (omega (arith, four, e))

-- a server whose journal is refused ends with status 3, and its line is the system's; so are those of the jobs
-- that only read or compact a journal
pub faults-are-told : (j : Job) (status : ℕ) (text : Option (List ℕ)) → IsProgram j → IsFinished j status text → status ≢ 0
    → ((line : List ℕ) × text ≡ Some line) ⊎ ((status ≡ 3) × (text ≡ None))
faults-are-told (job.Run words batch) status text p (inl (how, is, told)) h =
    let (line, by) = run-told how (λ e. h (is ∙ e)) in inl (line, told ∙ by)
faults-are-told (job.Serve config socket watch control clients tenant_clients share connections login idle turn reserve journal sync segment new_journal check) status text p (inl (how, is, told)) h =
    elim (host-told how (λ e. h (is ∙ e))) [
      | inl t ↦ inl (t.0, told ∙ t.1)
      | inr t ↦ inr (is ∙ t.0, told ∙ t.1)
    ]
faults-are-told (job.Compact directory) status text p (inl ended) h = absurd p
faults-are-told (job.Repair directory sure drop_later) status text p (inl ended) h = absurd p
faults-are-told (job.Journal directory tenant new check) status text p (inl ended) h = absurd p
faults-are-told j status text p (inr (four, line)) h = inl (codes "judyd: random fault", line)
