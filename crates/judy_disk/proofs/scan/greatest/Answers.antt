use Rattle.std.proofs.Common.{rules}
use Rattle.judy_disk.proofs.Runs.{greatest_all, greatest_more}
use Rattle.judy_disk.proofs.scan.greatest.Goals as goal

pub loop-number-preserved : goal.loop-number-preserved
loop-number-preserved c = rw c.max-most.ensures (greatest_more c.args.numbers.now c.loop-number.number-index c.loop-number.most (search rules) c.loop-number.invariant.0 c.loop-number.invariant.1)

pub returns : goal.returns
returns c = (c.loop-number.invariant.0, greatest_all c.args.numbers.now c.loop-number.number-index c.loop-number.most (search rules) c.loop-number.invariant.1)
