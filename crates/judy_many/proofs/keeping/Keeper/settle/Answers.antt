use Rattle.std.proofs.Common.{Some, ap, false, sym, ◌∙◌}
use Rattle.std.specs.Prelude.{option_map}
use Rattle.judy_many.specs.Books.{journal_of}
use Rattle.judy_many.proofs.Written.{some_written, written_then}
use Rattle.judy_many.proofs.keeping.Keeper.settle.Goals as goal

pub returns-then-not-keep_commit-clause-written : goal.returns-then-not-keep_commit-clause-written
returns-then-not-keep_commit-clause-written g c =
    let rule = c.self.inside.rule in
    let clean = c.self.inside.clean in
    some_written false c.args.self.now (journal_of rule clean c.deref_mut.result.now) (journal_of rule c.keep_commit.new.clean c.keep_commit.new.writer) _ _
    (sym c.self.view_is ∙ ap (option_map (λ w. journal_of rule clean w.value)) c.in-Some.is ∙ ap (λ w. Some (journal_of rule clean w)) (sym c.deref_mut.ensures.value))
    (rw c.if-not-keep_commit.true at c.keep_commit.ensures.written rule)

pub returns-clause-written : goal.returns-clause-written
returns-clause-written g c =
    let rule = c.self.inside.rule in
    let clean = c.self.inside.clean in
    some_written c.sync_if_due.result c.args.self.now (journal_of rule clean c.deref_mut.result.now) (journal_of rule c.sync_if_due.new.clean c.sync_if_due.new.writer) _ _
    (sym c.self.view_is ∙ ap (option_map (λ w. journal_of rule clean w.value)) c.in-Some.is ∙ ap (λ w. Some (journal_of rule clean w)) (sym c.deref_mut.ensures.value))
    (written_then c.sync_if_due.result (journal_of rule clean c.deref_mut.result.now) (journal_of rule c.keep_commit.new.clean c.keep_commit.new.writer) (journal_of rule c.sync_if_due.new.clean c.sync_if_due.new.writer) _ _ _
    (rw c.if-not-keep_commit.false at c.keep_commit.ensures.written rule) (rw c.deref_mut-2.ensures.value at c.sync_if_due.ensures.written))
