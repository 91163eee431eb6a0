use Rattle.judy_branch.proofs.Becoming.{linear-written}
use Rattle.judy_branch.proofs.linear.write.Goals as goal

pub returns : goal.returns
returns c = linear-written c.args.words.now c.args.byte c.there-place.result c.args.child c.requires.laid c.ranges.byte.fits
    c.requires.child c.there-place.ensures.place
