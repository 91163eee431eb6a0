use Rattle.std.proofs.Common.{sym, ◌∙◌}
use Rattle.judy_leaf.proofs.WordBits.{leaf-rank-full}
use Rattle.judy_leaf.proofs.bitmap.Bits.rank.Goals as goal

pub returns-then-self-eq256-clause-rank : goal.returns-then-self-eq256-clause-rank
returns-then-self-eq256-clause-rank c = c.from.ensures ∙ sym (leaf-rank-full c.args.self.values c.args.self.words.now c.args.self.sound
    c.if-self-eq256.true c.args.byte c.ranges.byte.fits)
