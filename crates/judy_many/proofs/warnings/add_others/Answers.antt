use Rattle.std.proofs.Common.{arith}
use Rattle.judy_many.proofs.Warned.{others_here}
use Rattle.judy_many.proofs.warnings.add_others.Goals as goal

pub returns-clause-fits : goal.returns-clause-fits
returns-clause-fits c short =
    let one = c.add.ensures.most in
    let two = c.add_number.ensures.most in
    others_here c.args.others c.if-others-eq0.false c.args.line.now.items c.add.new.line.items c.add_number.new.line.items c.add-2.new.line.items
    (c.add.ensures.fits (omega (arith, short))) (c.add_number.ensures.fits (omega (arith, short, one))) (c.add-2.ensures.fits (omega (arith, short, one, two)))
