use Rattle.std.proofs.Common.{ap, Some, ◌∙◌, ◌+◌}
use Rattle.judy_leaf.specs.Bytes.{bitmap_entries, leaf_shared}
use Rattle.judy_leaf.proofs.ConvertLaws.{bitmap-words}
use Rattle.judy_leaf.proofs.Gaps.{first-gap}
use Rattle.judy_leaf.proofs.BitsGaps.{first-other, first-in, first-past}
use Rattle.judy_leaf.proofs.bitmap.Bits.first_empty.Goals as goal

pub returns-then-x-self : goal.returns-then-x-self
returns-then-x-self c = first-gap (bitmap_entries c.args.self.values c.args.self.words.now)
    (bitmap-words c.args.self.values c.args.self.words.now c.args.self.sound) c.args.x c.ranges.x.fits (Some c.args.x)
    (first-other c.args.self.values c.args.self.words.now c.args.self.sound c.args.x c.ranges.x.fits c.if-x-self.true)

pub returns-in-Some : goal.returns-in-Some
returns-in-Some c = ap (λ m. Some (leaf_shared c.args.self.words.now + m)) c.from.ensures
    ∙ first-gap (bitmap_entries c.args.self.values c.args.self.words.now) (bitmap-words c.args.self.values c.args.self.words.now c.args.self.sound) c.args.x
    c.ranges.x.fits (Some (leaf_shared c.args.self.words.now + c.in-Some.byte))
    (first-in c.args.self.values c.args.self.words.now c.args.self.sound c.args.x c.ranges.x.fits c.if-x-self.false c.in-Some.byte
    (rw (← c.bits_of.ensures) c.in-Some.ensures))

pub returns-in-None : goal.returns-in-None
returns-in-None c = first-gap (bitmap_entries c.args.self.values c.args.self.words.now)
    (bitmap-words c.args.self.values c.args.self.words.now c.args.self.sound) c.args.x c.ranges.x.fits c.checked_add.result
    (first-past c.args.self.values c.args.self.words.now c.args.self.sound c.args.x c.ranges.x.fits c.if-x-self.false c.checked_add.result
    c.checked_add.ensures (rw (← c.bits_of.ensures) c.in-None.ensures))
