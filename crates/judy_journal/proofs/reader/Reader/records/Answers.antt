use Rattle.std.proofs.Common.{◌∙◌, sym, ap}
use Rattle.judy_journal.specs.Journals.{joined}
use Rattle.judy_journal.proofs.Pushing.{whole}
use Rattle.judy_journal.proofs.reader.Reader.records.Goals as goal

pub returns : goal.returns
returns c = c.as_slice.ensures.value ∙ sym (whole c.self.inside.body.items c.self.invariant.0) ∙ ap (λ r. joined r.records) c.self.view_is
