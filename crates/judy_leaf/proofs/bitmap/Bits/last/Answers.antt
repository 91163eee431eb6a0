use Rattle.std.proofs.Common.{ap, Some, ◌∙◌, ◌+◌}
use Rattle.judy_bitmap.specs.ByteSets.{at_most}
use Rattle.judy_model.specs.Contents.{last_of}
use Rattle.judy_leaf.specs.Bytes.{leaf_shared}
use Rattle.judy_leaf.proofs.BitsQueries.{last-found, last-missed, last-past}
use Rattle.judy_leaf.proofs.bitmap.Bits.last.Goals as goal

pub returns-then-x-shared : goal.returns-then-x-shared
returns-then-x-shared c = last-past c.args.self.values c.args.self.words.now c.args.self.sound c.args.x c.if-x-shared.true

pub returns-in-Some : goal.returns-in-Some
returns-in-Some c = ap (λ m. Some (leaf_shared c.args.self.words.now + m)) c.from.ensures
    ∙ last-found c.args.self.values c.args.self.words.now c.args.self.sound c.args.x c.highest.result c.in-Some.byte c.highest.ensures
    (c.in-Some.ensures ∙ ap (λ s. last_of (at_most s c.highest.result)) c.bit_words.ensures.same)

pub returns-in-None : goal.returns-in-None
returns-in-None c = last-missed c.args.self.values c.args.self.words.now c.args.self.sound c.args.x c.highest.result c.highest.ensures
    (c.in-None.ensures ∙ ap (λ s. last_of (at_most s c.highest.result)) c.bit_words.ensures.same)
