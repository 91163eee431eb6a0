use Rattle.judy_branch.proofs.Becoming.{bitmap-written}
use Rattle.judy_branch.proofs.bitmap.write.Goals as goal

pub returns : goal.returns
returns c = bitmap-written c.args.words.now c.args.byte c.there-place.result c.args.child c.requires.laid c.ranges.byte.fits
    c.requires.child c.there-place.ensures.place
