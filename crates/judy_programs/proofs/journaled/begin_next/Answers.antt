use Rattle.std.proofs.Common.{◌≡◌, Bool, true, false, inr, subst}
use Rattle.judy_journal.specs.Writes.{Writing}
use Rattle.judy_many.specs.Books.{journal_of}
use Rattle.judy_many.specs.Journaling.{HasWritten}
use Rattle.judy_many.specs.declared.network.Sync.{Sync}
use Rattle.judy_programs.specs.Asking.{Log}
use Rattle.judy_programs.proofs.journaled.begin_next.Goals as goal

-- whether it was begun, and what was written for it
abbrev AreWrittenBy : Writing → Log → Log → Bool → Writing → Type 0
AreWrittenBy old log log' well new = (rule : Sync) → HasWritten well (journal_of rule true old) (journal_of rule true new) log log'

pub returns-clause-begun : goal.returns-clause-begun
returns-clause-begun g c = λ is. (
  c.begin_segment.ensures.writer,
  subst (λ well. AreWrittenBy c.args.writer.now (g.H.Network.log c.args.system.now) (g.H.Network.log c.begin_segment.new.network) well
      c.begin_segment.new.writer) is c.begin_segment.ensures.written,
)

pub returns-clause-failed : goal.returns-clause-failed
returns-clause-failed g c = λ is. inr
    (subst (λ new. AreWrittenBy c.args.writer.now (g.H.Network.log c.args.system.now) (g.H.Network.log c.begin_segment.new.network) false new)
    c.begin_segment.ensures.writer
    (subst (λ well. AreWrittenBy c.args.writer.now (g.H.Network.log c.args.system.now) (g.H.Network.log c.begin_segment.new.network) well
    c.begin_segment.new.writer) is c.begin_segment.ensures.written))
