use Rattle.std.proofs.Common.{◌∙◌, arith}
use Rattle.judy_disk.proofs.Sums.{front_is, whole_is}
use Rattle.judy_disk.proofs.spent.first_word.Goals as goal

pub returns-in-Some : goal.returns-in-Some
returns-in-Some c =
    let first = c.in-Some.ensures.0 in
    c.split_at.ensures.front
    ∙ front_is c.args.line.now c.in-Some.at first.high (λ k lt. first.before k (omega arith) lt) c.in-Some.ensures.1

pub returns-in-None : goal.returns-in-None
returns-in-None c = whole_is c.args.line.now (λ k lt. c.in-None.ensures k (omega arith) lt)
