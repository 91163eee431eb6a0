use Rattle.std.proofs.Common.{◌∷◌, ◌∙◌, ap, arith, length}
use Rattle.std.specs.Fmt.{decimal}
use Rattle.std.proofs.lemmas.Fmt.{length-decimal-le}
use Rattle.std.proofs.Common.{length-append}
use Rattle.judy_protocol.proofs.replies.put_count.Goals as goal

pub returns-clause-short : goal.returns-clause-short
returns-clause-short c =
    let digits = length-decimal-le 5 c.args.n (omega arith) (omega arith) (omega arith) in
    let long = ap length c.put_number.ensures.text ∙ length-append c.args.line.now.items (32 ∷ decimal c.args.n) in
    omega (arith, digits, long)
