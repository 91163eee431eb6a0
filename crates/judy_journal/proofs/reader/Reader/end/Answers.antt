use Rattle.std.proofs.Common.{◌∙◌, sym, ap, subst, ◌<◌, inl}
use Rattle.judy_journal.specs.Readings.{tail_of}
use Rattle.judy_journal.proofs.Stepping.{reading_is_found}
use Rattle.judy_journal.proofs.reader.Reader.end.Goals as goal

pub returns-then-unended-gt0 : goal.returns-then-unended-gt0
returns-then-unended-gt0 c segment first text commits h =
    inl (
      commits,
      tail_of c.args.self.now,
      reading_is_found segment first text commits c.args.self.now h (sym (ap (λ r. r.begun) c.self.view_is) ∙ c.if-not-self.false),
      subst (λ n. 0 < n) c.unended.ensures c.if-unended-gt0.true,
    )
