use Rattle.std.proofs.Common.{◌%◌, is_some, sym, ap, ◌∙◌, ne_eqb}
use Rattle.judy_bitmap.specs.ByteSets.{is_member}
use Rattle.judy_leaf.proofs.BitmapLaws.{find-other, has_key-shared}
use Rattle.judy_leaf.proofs.bitmap.Bits.has.Goals as goal

pub returns-then-key-self : goal.returns-then-key-self
returns-then-key-self c = c.has_in.ensures ∙ ap (λ s. is_member s (c.args.key % 256)) c.bit_words.ensures.same
    ∙ sym (has_key-shared c.args.self.values c.args.self.words.now c.args.self.sound c.args.key c.if-key-self.true)

pub returns-else-key-self : goal.returns-else-key-self
returns-else-key-self c = ne_eqb _ _ c.if-key-self.false
    ∙ sym (ap is_some (find-other c.args.self.values c.args.self.words.now c.args.self.sound c.args.key c.if-key-self.false))
