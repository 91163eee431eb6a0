use Rattle.std.proofs.Common.{sym, ◌∙◌}
use Rattle.judy_model.specs.Grammar.{fields_of}
use Rattle.judy_protocol.proofs.Spelled.{first_none, second_none, third_none}
use Rattle.judy_protocol.proofs.requests.numbers_in.Goals as goal

pub returns-in_err-first : goal.returns-in_err-first
returns-in_err-first c =
    c.from_residual.ensures
    ∙ sym (first_none (fields_of c.args.text.now) c.in-Some.ensures.1 (λ field more is. c.in_err-first.ensures field more (c.in-Some.ensures.0 ∙ is)))

pub returns-in_err-second : goal.returns-in_err-second
returns-in_err-second c =
    c.from_residual-in_err-second.ensures
    ∙ sym (second_none (fields_of c.args.text.now) (fields_of c.in_ok-first.after.now) c.in_ok-first.ensures.0 c.in_ok-first.first
    (sym c.in-Some.ensures.0 ∙ c.in_ok-first.ensures.1) c.in_ok-first.ensures.2 c.in-Some-to_field.ensures.1
    (λ field more is. c.in_err-second.ensures field more (c.in-Some-to_field.ensures.0 ∙ is)))

pub returns-in_err-third : goal.returns-in_err-third
returns-in_err-third c =
    c.from_residual-in_err-third.ensures
    ∙ sym (third_none (fields_of c.args.text.now) (fields_of c.in_ok-first.after.now) (fields_of c.in_ok-second.after.now)
    c.in_ok-first.ensures.0 c.in_ok-second.ensures.0 c.in_ok-first.first c.in_ok-second.second
    (sym c.in-Some.ensures.0 ∙ c.in_ok-first.ensures.1) c.in_ok-first.ensures.2
    (sym c.in-Some-to_field.ensures.0 ∙ c.in_ok-second.ensures.1) c.in_ok-second.ensures.2 c.in-Some-to_field-2.ensures.1
    (λ field more is. c.in_err-third.ensures field more (c.in-Some-to_field-2.ensures.0 ∙ is)))
