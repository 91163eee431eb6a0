use Rattle.std.proofs.Common.{arith, ◌≡◌, [], true, false, ◌∙◌, sym, ap, subst, append-nil, length}
use Rattle.judy_journal.specs.Readings.{IsRead}
use Rattle.judy_journal.specs.Writes.{header_text}
use Rattle.judy_journal.proofs.recovery.Recovery.snapshot.Goals as goal

pub returns : goal.returns
returns c = record {
  read = subst (λ v. IsRead c.args.segment c.args.sum.now v [] c.begun.result) (sym (append-nil (header_text c.args.segment c.args.sum.now))) c.begun.ensures.read;
  taken_is = omega (arith, c.len.ensures.value, ap length c.numbered_line.ensures.text);
  last = λ whole. absurd (false_true (sym c.begun.ensures.unended ∙ whole));
}
  where
    false_true : false ≡ true → ⊥
    false_true e = cc
