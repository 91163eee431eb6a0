use Rattle.std.proofs.Common.{ap, Some, ◌∙◌, ◌+◌}
use Rattle.judy_leaf.specs.Bytes.{bitmap_entries, leaf_shared}
use Rattle.judy_leaf.proofs.ConvertLaws.{bitmap-words}
use Rattle.judy_leaf.proofs.Gaps.{last-gap}
use Rattle.judy_leaf.proofs.BitsGaps.{last-other, last-in, last-past}
use Rattle.judy_leaf.proofs.bitmap.Bits.last_empty.Goals as goal

pub returns-then-x-self : goal.returns-then-x-self
returns-then-x-self c = last-gap (bitmap_entries c.args.self.values c.args.self.words.now)
    (bitmap-words c.args.self.values c.args.self.words.now c.args.self.sound) c.args.x c.ranges.x.fits (Some c.args.x)
    (last-other c.args.self.values c.args.self.words.now c.args.self.sound c.args.x c.ranges.x.fits c.if-x-self.true)

pub returns-in-Some : goal.returns-in-Some
returns-in-Some c = ap (λ m. Some (leaf_shared c.args.self.words.now + m)) c.from.ensures
    ∙ last-gap (bitmap_entries c.args.self.values c.args.self.words.now) (bitmap-words c.args.self.values c.args.self.words.now c.args.self.sound) c.args.x
    c.ranges.x.fits (Some (leaf_shared c.args.self.words.now + c.in-Some.byte))
    (last-in c.args.self.values c.args.self.words.now c.args.self.sound c.args.x c.ranges.x.fits c.if-x-self.false c.in-Some.byte
    (rw (← c.bits_of.ensures) c.in-Some.ensures))

pub returns-in-None : goal.returns-in-None
returns-in-None c = last-gap (bitmap_entries c.args.self.values c.args.self.words.now)
    (bitmap-words c.args.self.values c.args.self.words.now c.args.self.sound) c.args.x c.ranges.x.fits c.checked_sub.result
    (last-past c.args.self.values c.args.self.words.now c.args.self.sound c.args.x c.ranges.x.fits c.if-x-self.false c.checked_sub.result
    c.checked_sub.ensures (rw (← c.bits_of.ensures) c.in-None.ensures))
