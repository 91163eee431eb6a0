use Rattle.std.proofs.Common.{◌∙◌, ap, refl, sym}
use Rattle.judy_journal.specs.Writes.{Writing, ended}
use Rattle.judy_upkeep.proofs.Added.{ends, on_ok}
use Rattle.judy_upkeep.proofs.output.Output.end.Goals as goal

pub returns : goal.returns
returns g c = (
  c.flush.new.self,
  on_ok _ c.flush.result (sym c.if-is_err.ensures.value) c.flush.ensures,
  ap (λ (w : Writing). w.records) (sym c.deref.ensures) ∙ c.is_empty.ensures.none c.if-not-is_empty.false,
  ends c.flush.new.self _ c.append.new.self (c.end_snapshot.ensures ∙ ap ended c.deref_mut.ensures.value) refl
      (on_ok _ c.append.result (sym c.if-is_err-2.ensures.value) c.append.ensures),
)
