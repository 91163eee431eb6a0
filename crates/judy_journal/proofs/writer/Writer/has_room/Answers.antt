use Rattle.std.proofs.Common.{◌+◌, length, sym, ap, ◌∙◌}
use Rattle.std.specs.Prelude.{nat_le}
use Rattle.judy_journal.specs.Journals.{joined}
use Rattle.judy_journal.proofs.Pushing.{whole}
use Rattle.judy_journal.proofs.writer.Writer.has_room.Goals as goal

pub returns : goal.returns
returns c = ap (λ n. nat_le (n + 4130) 16242)
    (c.len.ensures.value ∙ sym (ap length (whole c.self.inside.body.items c.self.invariant.0)) ∙ ap (λ w. length (joined w.records)) c.self.view_is)
