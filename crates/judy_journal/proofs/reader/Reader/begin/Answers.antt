use Rattle.std.proofs.Common.{sym, ap, ◌∙◌}
use Rattle.judy_journal.specs.Journals.{header}
use Rattle.judy_journal.proofs.reader.Reader.begin.Goals as goal

pub returns-then-not-are_same-clause-other : goal.returns-then-not-are_same-clause-other
returns-then-not-are_same-clause-other c e same =
    c.are_same.ensures.other c.if-not-are_same.true (c.as_slice.ensures.value ∙ ap (λ r. r.line) c.self.view_is ∙ same
    ∙ ap (λ r. header r.segment r.first) (sym c.self.view_is) ∙ sym (c.as_slice-2.ensures.value ∙ c.numbered_line-header.ensures.text))

pub returns-clause-is : goal.returns-clause-is
returns-clause-is c e =
    ap (λ r. r.line) (sym c.self.view_is) ∙ sym c.as_slice.ensures.value ∙ c.are_same.ensures.same c.if-not-are_same.false
    ∙ c.as_slice-2.ensures.value ∙ c.numbered_line-header.ensures.text ∙ ap (λ r. header r.segment r.first) c.self.view_is
