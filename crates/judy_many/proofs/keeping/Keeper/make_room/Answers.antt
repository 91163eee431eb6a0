use Rattle.std.proofs.Common.{Some, ap, sym, ◌∙◌}
use Rattle.std.specs.Prelude.{option_map}
use Rattle.judy_many.specs.Books.{journal_of}
use Rattle.judy_many.proofs.Written.{some_written}
use Rattle.judy_many.proofs.keeping.Keeper.make_room.Goals as goal

pub returns-clause-written : goal.returns-clause-written
returns-clause-written g c =
    let rule = c.self.inside.rule in
    let clean = c.self.inside.clean in
    some_written c.keep_commit.result c.args.self.now (journal_of rule clean c.deref_mut.result.now) (journal_of rule c.keep_commit.new.clean c.keep_commit.new.writer) _ _
    (sym c.self.view_is ∙ ap (option_map (λ w. journal_of rule clean w.value)) c.in-Some.is ∙ ap (λ w. Some (journal_of rule clean w)) (sym c.deref_mut.ensures.value)) (c.keep_commit.ensures.written rule)
