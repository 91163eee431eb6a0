use Rattle.std.proofs.Common.{false}
use Rattle.judy_many.specs.Books.{journal_of}
use Rattle.judy_many.proofs.Written.{written_then}
use Rattle.judy_many.proofs.keeping.keep_commit.Goals as goal

pub returns-then-not-end_commit-clause-written : goal.returns-then-not-end_commit-clause-written
returns-then-not-end_commit-clause-written g c = λ rule. rw c.if-not-end_commit.true at c.end_commit.ensures.written rule c.args.clean.now

pub returns-clause-written : goal.returns-clause-written
returns-clause-written g c = λ rule.
    written_then c.next_if_full.result (journal_of rule c.args.clean.now c.args.writer.now) (journal_of rule false c.end_commit.new.writer) (journal_of rule c.next_if_full.new.clean c.next_if_full.new.writer) _ _ _
    (rw c.if-not-end_commit.false at c.end_commit.ensures.written rule c.args.clean.now) (c.next_if_full.ensures.written rule)
