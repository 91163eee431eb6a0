use Rattle.std.proofs.Common.{arith, sym}
use Rattle.judy_protocol.proofs.Digits.{few_fit, twenty_fit_0, twenty_fit_1, twenty_wrap_1, twenty_wrap_2}
use Rattle.judy_protocol.proofs.numbers.fitting.Goals as goal

pub returns-in-1-to-19 : goal.returns-in-1-to-19
returns-in-1-to-19 c = few_fit c.args.digits.now c.args.value c.requires.digits c.requires.value
    (omega (arith, c.in-1-to-19)) (omega (arith, c.in-1-to-19))

pub returns-in-20 : goal.returns-in-20
returns-in-20 c = twenty_fit_0 c.args.digits.now c.args.value c.requires.digits c.requires.value
    c.in-20.is c.if-digits-eq48.true

pub returns-in-20-2 : goal.returns-in-20-2
returns-in-20-2 c = twenty_fit_1 c.args.digits.now c.args.value c.requires.digits c.requires.value
    c.in-20.is c.if-digits-eq49.true (omega (arith, c.if-value-ge10000000000000000000.true))

pub returns-in_default : goal.returns-in_default
returns-in_default c = sym (twenty_wrap_1 c.args.digits.now c.args.value c.requires.digits c.requires.value
    c.in-20.is c.if-digits-eq49.true (omega (arith, c.if-value-ge10000000000000000000.false)))

pub returns-in_default-2 : goal.returns-in_default-2
returns-in_default-2 c = sym (twenty_wrap_2 c.args.digits.now c.args.value c.requires.digits c.requires.value
    c.in-20.is c.if-digits-eq48.false c.if-digits-eq49.false)
