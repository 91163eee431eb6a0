use Rattle.std.proofs.Common.{◌≤◌, ap, arith, refl, Some}
use Rattle.std.specs.Str.Parse.{digits_value, without_leading_plus}
use Rattle.judy_command.specs.declared.words.Sync.TheVariants.{Seconds}
use Rattle.judy_command.proofs.Rows.{seconds-in, seconds-out}
use Rattle.judy_command.proofs.words.seconds_in.Goals as goal

pub returns-then-n-ge1 : goal.returns-then-n-ge1
returns-then-n-ge1 c =
    let read = c.in-Ok.ensures.value.0 in
    let some : 1 ≤ digits_value 10 (without_leading_plus c.args.text.now) = rw (← read.1) c.if-n-ge1.true in
    rw (seconds-in c.args.text.now read.0.0 (omega (arith, read.0.1)) some) (ap (λ n. Some (Seconds n)) read.1)

pub returns-in-Err : goal.returns-in-Err
returns-in-Err c = rw (seconds-out c.args.text.now (λ numeral fits some. c.in-Err.ensures.value.0 (numeral, omega (arith, fits)))) refl
