use Rattle.std.proofs.Common.{◌∙◌, sym, ap, length}
use Rattle.std.specs.Prelude.{if◌then◌else◌}
use Rattle.judy_model.specs.Stream.{lines_of}
use Rattle.judy_journal.specs.Journals.{joined}
use Rattle.judy_journal.specs.Readings.{Reading}
use Rattle.judy_journal.proofs.Pushing.{whole}
use Rattle.judy_journal.proofs.reader.Reader.open_len.Goals as goal

pub returns : goal.returns
returns c =
    let len : Rattle.std.specs.Prelude.Bool → Rattle.std.specs.Prelude.ℕ = λ b. if b then 0 else length (joined (lines_of c.self.inside.body.items)) in
    let shown : Reading → Rattle.std.specs.Prelude.ℕ = λ r. if r.whole then 0 else length (joined r.records) in
    c.len.ensures.value ∙ sym (ap length (whole c.self.inside.body.items c.self.invariant.0)) ∙ ap len (sym c.if-self.false) ∙ ap shown c.self.view_is
