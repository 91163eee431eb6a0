use Rattle.std.proofs.Common.{arith, ◌≡◌, ◌++◌, [], ◌∙◌, sym, ap, length}
use Rattle.std.specs.Prelude.{if◌then◌else◌}
use Rattle.std.proofs.lemmas.List.{length-append}
use Rattle.judy_model.specs.Stream.{lines_of}
use Rattle.judy_journal.specs.Journals.{joined}
use Rattle.judy_journal.specs.Readings.{tail_of}
use Rattle.judy_journal.proofs.Pushing.{whole}
use Rattle.judy_journal.proofs.reader.Reader.unended.Goals as goal

pub returns : goal.returns
returns c =
    let tail : tail_of c.args.self.now ≡ c.self.inside.body.items ++ c.self.inside.line.items =
    ap tail_of (sym c.self.view_is)
    ∙ ap (λ b. if b then [] else joined (lines_of c.self.inside.body.items) ++ c.self.inside.line.items) c.if-self.false
    ∙ ap (λ v. v ++ c.self.inside.line.items) (whole c.self.inside.body.items c.self.invariant.0) in
    omega (arith, ap length tail, length-append c.self.inside.body.items c.self.inside.line.items, c.len.ensures.value, c.len-2.ensures.value)
