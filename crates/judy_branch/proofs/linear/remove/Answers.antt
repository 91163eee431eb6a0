use Rattle.judy_branch.proofs.Becoming.{linear-removed}
use Rattle.judy_branch.proofs.linear.remove.Goals as goal

pub returns : goal.returns
returns c =
    linear-removed c.args.words.now c.close_gap.new.words c.args.byte c.there-place.result c.remove_byte.result c.requires.laid
    c.there-place.ensures.place c.close_gap.ensures c.remove_byte.ensures.bytes c.remove_byte.ensures.unused
