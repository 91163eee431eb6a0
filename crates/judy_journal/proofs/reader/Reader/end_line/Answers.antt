use Rattle.std.proofs.Common.{sym, ap, ◌∙◌, subst}
use Rattle.std.specs.Prelude.{IsTrue}
use Rattle.judy_journal.specs.Journals.{is_commit, is_line}
use Rattle.judy_journal.proofs.Stepping.{closed, kept, other_mark, no_room, record_if}
use Rattle.judy_journal.proofs.Stopping.{stops-at-header, stops-at-mark, stops-at-record}
use Rattle.judy_journal.proofs.reader.Reader.end_line.Goals as goal

pub keep-requires : goal.keep-requires
keep-requires c =
    record_if c.args.self.now.line (subst (λ r. IsTrue (is_line r.line)) c.self.view_is c.self.invariant.3) (sym c.is_mark.ensures ∙ c.if-is_mark.false)

pub returns-then-close-clause-ended : goal.returns-then-close-clause-ended
returns-then-close-clause-ended c segment first text commits h unended =
    closed segment first text commits c.args.self.now h unended c.close.new.self (sym (ap (λ r. r.begun) c.self.view_is) ∙ c.if-not-self.false)
    (subst (λ r. IsTrue (is_commit r.records)) c.self.view_is c.self.invariant.2) (c.close.ensures.is c.if-close.true) (c.close.ensures.read c.if-close.true)

pub returns-then-is_mark-clause-ended : goal.returns-then-is_mark-clause-ended
returns-then-is_mark-clause-ended c segment first text commits h unended more =
    other_mark segment first text commits c.args.self.now h unended (sym (ap (λ r. r.begun) c.self.view_is) ∙ c.if-not-self.false)
    (sym c.is_mark.ensures ∙ c.if-is_mark.true) (c.close.ensures.other c.if-close.false) more

pub returns-then-keep-clause-ended : goal.returns-then-keep-clause-ended
returns-then-keep-clause-ended c segment first text commits h unended =
    kept segment first text commits c.args.self.now h unended c.keep.new.self (sym (ap (λ r. r.begun) c.self.view_is) ∙ c.if-not-self.false)
    (record_if c.args.self.now.line h.line_is (sym c.is_mark.ensures ∙ c.if-is_mark.false)) (c.keep.ensures.kept c.if-keep.true)

pub returns-clause-ended : goal.returns-clause-ended
returns-clause-ended c segment first text commits h unended more =
    no_room segment first text commits c.args.self.now h unended (sym (ap (λ r. r.begun) c.self.view_is) ∙ c.if-not-self.false)
    (record_if c.args.self.now.line h.line_is (sym c.is_mark.ensures ∙ c.if-is_mark.false)) (c.keep.ensures.long c.if-keep.false) more

pub returns-then-not-self-clause-stopped : goal.returns-then-not-self-clause-stopped
returns-then-not-self-clause-stopped c segment first text commits h unended =
    stops-at-header segment first text commits c.args.self.now h unended (sym (ap (λ r. r.begun) c.self.view_is) ∙ c.if-not-self.true)
    (c.begin.ensures.other c.if-begin.false)

pub returns-then-is_mark-clause-stopped : goal.returns-then-is_mark-clause-stopped
returns-then-is_mark-clause-stopped c segment first text commits h unended =
    stops-at-mark segment first text commits c.args.self.now h unended (sym (ap (λ r. r.begun) c.self.view_is) ∙ c.if-not-self.false)
    (sym c.is_mark.ensures ∙ c.if-is_mark.true) (c.close.ensures.other c.if-close.false)

pub returns-clause-stopped : goal.returns-clause-stopped
returns-clause-stopped c segment first text commits h unended =
    stops-at-record segment first text commits c.args.self.now h unended (sym (ap (λ r. r.begun) c.self.view_is) ∙ c.if-not-self.false)
    (record_if c.args.self.now.line h.line_is (sym c.is_mark.ensures ∙ c.if-is_mark.false)) (c.keep.ensures.long c.if-keep.false)
