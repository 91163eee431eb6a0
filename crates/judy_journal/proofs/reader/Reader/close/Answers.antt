use Rattle.std.proofs.Common.{List, ℕ, [], true, sym, ap, ◌∙◌}
use Rattle.judy_model.specs.Stream.{lines_of}
use Rattle.judy_journal.specs.Journals.{mark, sum_after}
use Rattle.judy_journal.specs.Readings.{Reading}
use Rattle.judy_journal.proofs.Stepping.{mark_is, sum_is}
use Rattle.judy_journal.proofs.reader.Reader.close.Goals as goal

pub returns-then-not-are_same-clause-other : goal.returns-then-not-are_same-clause-other
returns-then-not-are_same-clause-other c e same =
    let expected = mark_is c.self.inside.sum c.self.inside.body.items c.as_slice.result.now c.sum_of-sum.result c.self.inside.count
    c.self.invariant.0 c.self.invariant.1 c.as_slice.ensures.value c.sum_of-sum.ensures in
    c.are_same.ensures.other c.if-not-are_same.true (c.as_slice-2.ensures.value ∙ ap (λ r. r.line) c.self.view_is ∙ same
    ∙ ap (λ r. mark r.sum r.records) (sym c.self.view_is) ∙ sym (c.as_slice-3.ensures.value ∙ c.numbered_line-mark.ensures.text ∙ expected))

pub returns-clause-is : goal.returns-clause-is
returns-clause-is c e =
    let expected = mark_is c.self.inside.sum c.self.inside.body.items c.as_slice.result.now c.sum_of-sum.result c.self.inside.count
    c.self.invariant.0 c.self.invariant.1 c.as_slice.ensures.value c.sum_of-sum.ensures in
    ap (λ r. r.line) (sym c.self.view_is) ∙ sym c.as_slice-2.ensures.value ∙ c.are_same.ensures.same c.if-not-are_same.false
    ∙ c.as_slice-3.ensures.value ∙ c.numbered_line-mark.ensures.text ∙ expected ∙ ap (λ r. mark r.sum r.records) c.self.view_is

pub returns-clause-read : goal.returns-clause-read
returns-clause-read c e =
    let next = sum_is c.self.inside.sum c.self.inside.body.items c.as_slice.result.now c.sum_of-sum.result
    c.self.invariant.0 c.as_slice.ensures.value c.sum_of-sum.ensures in
    let shown : Reading = record {
      segment = c.self.inside.segment;
      first = c.self.inside.first;
      sum = c.self.inside.sum;
      begun = c.self.inside.begun;
      whole = c.self.inside.whole;
      records = lines_of c.self.inside.body.items;
      line = c.self.inside.line.items;
    } in
    let with_sum : List ℕ → Reading = λ s. record shown { sum = s; whole = true; line = c.clear.new.self.items } in
    let with_line : List ℕ → Reading =
    λ l. record shown { sum = sum_after c.self.inside.sum (lines_of c.self.inside.body.items); whole = true; line = l } in
    let now : Reading → Reading = λ r. record r { sum = sum_after r.sum r.records; whole = true; line = [] } in
    ap with_sum next ∙ ap with_line c.clear.ensures ∙ ap now c.self.view_is
