use Rattle.std.proofs.Common.{arith, ◌≡◌, ◌+◌, ◌-◌, sym, ap, ◌∙◌, length}
use Rattle.std.specs.Prelude.{codes}
use Rattle.judy_journal.specs.Writes.{snapshot_line}
use Rattle.judy_journal.proofs.Unpacking.{its_sum, long_line}
use Rattle.judy_journal.proofs.records.snapshot_sum.Goals as goal

pub returns-then-line-lt-SUM_LEN-clause-other : goal.returns-then-line-lt-SUM_LEN-clause-other
returns-then-line-lt-SUM_LEN-clause-other c e sum is line =
    omega (arith, is, ap length line, long_line (codes "judyd snapshot 1 ") c.args.segment sum, c.if-line-lt-SUM_LEN.true)

pub returns-then-not-are_same-clause-other : goal.returns-then-not-are_same-clause-other
returns-then-not-are_same-clause-other c e sum is line =
    let at : length c.args.line.now - 16 + length sum ≡ length c.args.line.now = omega (arith, is, c.if-line-lt-SUM_LEN.false) in
    let same = c.copy_from_slice.ensures.after ∙ c.split_at.ensures.back
    ∙ its_sum (codes "judyd snapshot 1 ") c.args.segment sum c.args.line.now (length c.args.line.now - 16) line at in
    c.are_same.ensures.other c.if-not-are_same.true
    (line ∙ ap (snapshot_line c.args.segment) (sym same) ∙ sym (c.as_slice.ensures.value ∙ c.numbered_line-header.ensures.text))
