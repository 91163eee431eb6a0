use Rattle.std.proofs.Common.{sym, subst}
use Rattle.judy_journal.specs.Recovered.{IsUnpacked}
use Rattle.judy_journal.proofs.Unpacking.{snapshot_ends}
use Rattle.judy_journal.proofs.recovery.Recovery.end_snapshot.Goals as goal

pub returns-clause-ended : goal.returns-clause-ended
returns-clause-ended c segment sum text commits h =
    let k = subst (λ v. IsUnpacked segment sum text commits v) (sym c.self.view_is) h in
    snapshot_ends segment sum text commits _ c.restart.new.self k (c.is_at_end.ensures.end c.if-not-is_at_end.false)
    (c.is_at_end.ensures.none c.if-not-is_at_end.false) c.restart.ensures
