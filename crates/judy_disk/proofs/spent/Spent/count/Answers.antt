use Rattle.std.proofs.Common.{refl}
use Rattle.judy_disk.proofs.Sums.{line_more, line_none}
use Rattle.judy_disk.proofs.spent.Spent.count.Goals as goal

pub loop-line-preserved : goal.loop-line-preserved
loop-line-preserved c chosen = line_more chosen c.args.segment _ _ c.in-Some.line.now c.loop-line.rest.now _ (c.loop-line.invariant chosen)
    (c.if-not-add_line.ensures refl chosen) c.in-Some.after.now c.in-Some.ensures.0 c.in-Some.ensures.1

pub returns : goal.returns
returns c _ chosen = line_none chosen c.args.segment _ c.loop-line.rest.now _ (c.loop-line.invariant chosen) c.in_default.ensures
