use Rattle.std.proofs.Common.{◌++◌, arith, ap, ◌∙◌, codes, decimal, length}
use Rattle.judy_many.proofs.warnings.requests_line.Goals as goal

pub returns : goal.returns
returns c =
    let head = ap length c.begin-line.ensures in
    let most = c.add_number.ensures.most in
    c.add.ensures.fits (omega (arith, head, most))
    ∙ ap (λ l. l ++ codes " requests refused") (c.add_number.ensures.fits (omega (arith, head)) ∙ ap (λ l. l ++ decimal c.args.count) c.begin-line.ensures)
