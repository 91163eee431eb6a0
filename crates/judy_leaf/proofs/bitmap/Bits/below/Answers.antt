use Rattle.std.proofs.Common.{ap, length, ◌∙◌, ◌%◌}
use Rattle.judy_bitmap.specs.ByteSets.{below}
use Rattle.judy_leaf.proofs.BitsQueries.{rank-none, rank-in, rank-all}
use Rattle.judy_leaf.proofs.bitmap.Bits.below.Goals as goal

pub returns-then-x-shared : goal.returns-then-x-shared
returns-then-x-shared c = rank-none c.args.self.values c.args.self.words.now c.args.self.sound c.args.x c.if-x-shared.true

pub returns-then-x-shared-2 : goal.returns-then-x-shared-2
returns-then-x-shared-2 c = c.from.ensures ∙ c.rank_in.ensures.rank ∙ ap (λ s. length (below s (c.args.x % 256)))
    c.bit_words.ensures.same ∙ rank-in c.args.self.values c.args.self.words.now c.args.self.sound c.args.x c.if-x-shared-2.true

pub returns : goal.returns
returns c = rank-all c.args.self.values c.args.self.words.now c.args.self.sound c.args.x c.if-x-shared.false c.if-x-shared-2.false
