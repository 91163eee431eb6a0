use Rattle.std.proofs.Common.{◌+◌, sym, subst, length}
use Rattle.judy_journal.specs.Journals.{sum_at}
use Rattle.judy_journal.specs.Recovered.{IsRecovered}
use Rattle.judy_journal.proofs.Gathering.{next_begins}
use Rattle.judy_journal.proofs.recovery.Recovery.next_file.Goals as goal

pub returns-in-Ok : goal.returns-in-Ok
returns-in-Ok c segment sum done text commits h =
    let k = subst (λ v. IsRecovered segment sum done text commits v) (sym c.self.view_is) h in
    let (whole, read) = c.in-Ok.ensures (segment + length done + 1) (sum_at sum k.before) text k.here k.read in
    next_begins segment sum done text commits _ c.end.new.self k whole read
