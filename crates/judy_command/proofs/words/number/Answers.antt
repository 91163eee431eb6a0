use Rattle.std.proofs.Common.{◌∙◌, ◌≤◌, ◌<◌, ◌⊎◌, ℕ, inl, inr, arith}
use Rattle.std.specs.Str.Parse.{digits_value, without_leading_plus}
use Rattle.judy_command.proofs.Rows.{number_of-in, number_of-out}
use Rattle.judy_command.proofs.words.number.Goals as goal

-- a number in range is not out of it
neither : (n most : ℕ) → (1 ≤ n × most < n) ⊎ (n < 1) → n ≤ most → 1 ≤ n → ⊥
neither n most (inl (some, many)) few one = omega (arith, many, few)
neither n most (inr none) few one = omega (arith, none, one)

pub returns-then-n-most : goal.returns-then-n-most
returns-then-n-most c =
    let read = c.in-Ok.ensures.value.0 in
    let some : 1 ≤ digits_value 10 (without_leading_plus c.args.text.now) = rw (← read.1) c.if-n-ge1.true in
    let few : digits_value 10 (without_leading_plus c.args.text.now) ≤ c.args.most = rw (← read.1) c.if-n-most.true in
    read.1 ∙ number_of-in c.args.most (omega (arith, c.ranges.most.fits)) c.args.text.now read.0.0 few some

pub returns-else-n-ge1 : goal.returns-else-n-ge1
returns-else-n-ge1 c =
    let read = c.in-Ok.ensures.value.0 in
    number_of-out c.args.most c.args.text.now (λ numeral few some.
    neither c.in-Ok.n c.args.most c.else-n-ge1.either (rw read.1 few) (rw read.1 some))

pub returns-in-Err : goal.returns-in-Err
returns-in-Err c = number_of-out c.args.most c.args.text.now (λ numeral fits some. c.in-Err.ensures.value.0 (numeral, omega (arith, fits, c.ranges.most.fits)))
