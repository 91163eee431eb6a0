use Rattle.std.proofs.Common.{ap, Some, ◌∙◌, ◌+◌}
use Rattle.judy_bitmap.specs.ByteSets.{at_least}
use Rattle.judy_model.specs.Contents.{head_of}
use Rattle.judy_leaf.specs.Bytes.{leaf_shared}
use Rattle.judy_leaf.proofs.BitsQueries.{first-some, first-none, first-past}
use Rattle.judy_leaf.proofs.bitmap.Bits.first.Goals as goal

pub returns-then-x-shared : goal.returns-then-x-shared
returns-then-x-shared c = first-past c.args.self.values c.args.self.words.now c.args.self.sound c.args.x c.if-x-shared.true

pub returns-in-Some : goal.returns-in-Some
returns-in-Some c = ap (λ m. Some (leaf_shared c.args.self.words.now + m)) c.from.ensures
    ∙ first-some c.args.self.values c.args.self.words.now c.args.self.sound c.args.x c.lowest.result c.in-Some.byte c.lowest.ensures
    (c.in-Some.ensures ∙ ap (λ s. head_of (at_least s c.lowest.result)) c.bit_words.ensures.same)

pub returns-in-None : goal.returns-in-None
returns-in-None c = first-none c.args.self.values c.args.self.words.now c.args.self.sound c.args.x c.lowest.result c.lowest.ensures
    (c.in-None.ensures ∙ ap (λ s. head_of (at_least s c.lowest.result)) c.bit_words.ensures.same)
