use Rattle.judy_leaf.proofs.LinearLaws.{single-map, single-set}
use Rattle.judy_leaf.proofs.linear.start.Goals as goal

pub returns-then-values : goal.returns-then-values
returns-then-values c =
    let r = single-map c.args.values c.args.words.now c.args.key c.args.value c.if-values.true c.ranges.key.fits c.ranges.value.fits c.requires.room in
    record { leaf = r.0; entries = r.1; count = r.2 }

pub returns-else-values : goal.returns-else-values
returns-else-values c =
    let r = single-set c.args.values c.args.words.now c.args.key c.args.value c.if-values.false
    (c.requires.plain c.if-values.false) c.ranges.key.fits c.requires.room in
    record { leaf = r.0; entries = r.1; count = r.2 }
