use Rattle.judy_leaf.proofs.LinearLaws.{written, present-goes}
use Rattle.judy_leaf.proofs.linear.write.Goals as goal

pub unreachable-requires : goal.unreachable-requires
unreachable-requires c = present-goes _ c.args.words.now c.requires.leaf c.in_default.field-0 c.args.key c.in_default.ensures c.requires.there

pub returns : goal.returns
returns c =
    let r = written c.args.words.now c.requires.leaf c.in-Ok.place c.args.key c.args.value c.in-Ok.ensures c.ranges.key.fits c.ranges.value.fits in
    record { leaf = r.0; entries = r.1; count = r.2 }
