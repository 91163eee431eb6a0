use Rattle.std.proofs.Common.{ap, ◌∙◌, sym, arith}
use Rattle.std.specs.List.{list_all}
use Rattle.judy_model.specs.Grammar.{is_digit}
use Rattle.judy_protocol.proofs.Digits.{leading, number_cut, only_first}
use Rattle.judy_protocol.proofs.numbers.next_number.Goals as goal

pub fitting-requires-clause-digits : goal.fitting-requires-clause-digits
fitting-requires-clause-digits c = ap (list_all is_digit) c.split_at.ensures.front
    ∙ leading c.args.text.now c.read_digits-end.result.0 (omega (arith, c.read_digits-end.ensures.end))

pub returns-in_err-fitting : goal.returns-in_err-fitting
returns-in_err-fitting c =
    let cut = number_cut c.args.text.now c.split_at.result.0.now c.split_at.result.1.now c.read_digits-end.result.0
    c.split_at.ensures.front c.split_at.ensures.back c.if-end-gt0.true (omega (arith, c.read_digits-end.ensures.end))
    (sym c.if-ends_field.ensures) in
    rw c.from_residual.ensures (only_first c.args.text.now _ _ cut.0 (cut.1 ∙ sym c.fitting.ensures ∙ c.in_err-fitting.was))

pub returns-then-ends_field : goal.returns-then-ends_field
returns-then-ends_field c =
    let cut = number_cut c.args.text.now c.split_at.result.0.now c.split_at.result.1.now c.read_digits-end.result.0
    c.split_at.ensures.front c.split_at.ensures.back c.if-end-gt0.true (omega (arith, c.read_digits-end.ensures.end))
    (sym c.if-ends_field.ensures) in
    (c.split_at.result.0.now, cut.0, cut.1 ∙ sym c.fitting.ensures ∙ c.in_ok-fitting.was)
