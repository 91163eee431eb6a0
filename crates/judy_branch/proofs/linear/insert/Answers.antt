use Rattle.std.proofs.Common.{arith}
use Rattle.judy_branch.proofs.Becoming.{linear-inserted}
use Rattle.judy_branch.proofs.linear.insert.Goals as goal

pub returns : goal.returns
returns c =
    let m = c.requires.room in
    linear-inserted c.args.words.now c.open_gap.new.words c.args.byte c.missing-place.result c.args.child c.insert_byte.result
    c.requires.laid c.requires.few (omega arith) c.ranges.byte.fits c.requires.child
    c.missing-place.ensures.place c.open_gap.ensures c.insert_byte.ensures.bytes c.insert_byte.ensures.unused
