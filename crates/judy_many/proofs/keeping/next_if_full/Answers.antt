use Rattle.std.proofs.Common.{true}
use Rattle.judy_many.specs.Books.{journal_of}
use Rattle.judy_many.proofs.Written.{written_then}
use Rattle.judy_many.proofs.keeping.next_if_full.Goals as goal

pub returns-clause-written : goal.returns-clause-written
returns-clause-written g c = λ rule.
    let secured = rw c.sync_all.ensures.clean at (rw c.if-not-sync_all.false at c.sync_all.ensures.written rule) in
    rw c.sync_all.ensures.clean (written_then c.begin_segment.result (journal_of rule c.args.clean.now c.args.writer.now) (journal_of rule true c.sync_all.new.writer) (journal_of rule true c.begin_segment.new.writer) _ _ _
    secured (c.begin_segment.ensures.written rule))
