use Rattle.judy_recovery.proofs.Lines.{start_more, start_none}
use Rattle.judy_recovery.proofs.pieces.start_of.Goals as goal

pub returns-in-None : goal.returns-in-None
returns-in-None c =
    start_none c.args.halt.played c.loop-line._line c.args.records.now c.loop-line.rest.now c.loop-line.invariant c.loop-line-test.true c.in-None.ensures

pub loop-line-preserved : goal.loop-line-preserved
loop-line-preserved c =
    start_more c.args.halt.played c.loop-line._line c.args.records.now c.loop-line.rest.now c.in-Some.field-0-0.now c.in-Some.after.now
    c.loop-line.invariant c.loop-line-test.true c.in-Some.ensures.0 c.in-Some.ensures.1
