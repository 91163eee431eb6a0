use Rattle.std.proofs.Common.{arith, ◌≡◌, ◌∙◌, sym, ap, true, false}
use Rattle.judy_journal.specs.Journals.{sum_at}
use Rattle.judy_journal.proofs.Fronts.{sum_at-append}
use Rattle.judy_journal.proofs.Gathering.{position_size}
use Rattle.judy_journal.proofs.recovery.Recovery.position.Goals as goal

pub returns-then-not-is_begun : goal.returns-then-not-is_begun
returns-then-not-is_begun c segment sum done text commits h =
    let bare = sym (ap (λ r. r.reading.begun) c.self.view_is) ∙ sym c.is_begun.ensures ∙ c.if-not-is_begun.true in
    record {
      sum_is = c.sum-sum.ensures ∙ ap (λ r. r.reading.sum) c.self.view_is ∙ h.read.sum_is ∙ sym (sum_at-append sum h.before h.here)
          ∙ ap (sum_at sum) (sym h.joins);
      here = λ e. absurd (true_false (sym e ∙ bare));
      size_is = λ e. absurd (true_false (sym e ∙ bare));
      before = λ e. omega (arith, c.saturating_sub-segment.ensures, c.segment.ensures, ap (λ r. r.reading.segment) c.self.view_is, h.read.segment_is);
      before_is = λ e. ap (λ r. r.before) c.self.view_is ∙ h.before_is;
    }
  where
    true_false : true ≡ false → ⊥
    true_false e = cc

pub returns : goal.returns
returns c segment sum done text commits h = record {
  sum_is = c.sum-sum.ensures ∙ ap (λ r. r.reading.sum) c.self.view_is ∙ h.read.sum_is ∙ sym (sum_at-append sum h.before h.here)
      ∙ ap (sum_at sum) (sym h.joins);
  here = λ e. c.segment-segment.ensures ∙ ap (λ r. r.reading.segment) c.self.view_is ∙ h.read.segment_is;
  size_is = λ e. position_size segment sum done text commits c.args.self.now c.whole-size.result h e c.whole-size.ensures;
  before_is = λ e. absurd (true_false (sym c.if-not-is_begun.false ∙ c.is_begun.ensures ∙ ap (λ r. r.reading.begun) c.self.view_is ∙ e));
  before = λ e. absurd (true_false (sym c.if-not-is_begun.false ∙ c.is_begun.ensures ∙ ap (λ r. r.reading.begun) c.self.view_is ∙ e));
}
  where
    true_false : true ≡ false → ⊥
    true_false e = cc
