use Rattle.std.proofs.Common.{ap, ◌∙◌, sym, cond, Some, arith}
use Rattle.std.proofs.Math.Seq.{take-length}
use Rattle.std.proofs.lemmas.List.Sums.{prefix_len_stops}
use Rattle.std.specs.List.{list_all}
use Rattle.std.specs.Float.Numeral.{digits_len}
use Rattle.std.specs.Prelude.{codes}
use Rattle.judy_model.specs.Contents.{max_word}
use Rattle.judy_model.specs.Grammar.{is_digit}
use Rattle.judy_protocol.specs.Digits.{digits_of}
use Rattle.judy_protocol.proofs.Digits.{leading, letter_none}
use Rattle.judy_protocol.proofs.Texts.{other_text}
use Rattle.judy_protocol.proofs.numbers.number.Goals as goal

pub returns-then-end-field : goal.returns-then-end-field
returns-then-end-field c =
    let field = c.args.field.now in
    sym (ap (λ b. cond b (Some max_word) (digits_of field)) (other_text field (codes "-1") _ c.as_slice.ensures c.if-eq.ensures)
    ∙ letter_none field (digits_len field) (omega (arith, c.read_digits-end.ensures.end, c.if-end-field.true))
    (prefix_len_stops is_digit field 0 (omega (arith, c.read_digits-end.ensures.end, c.if-end-field.true))))

pub fitting-requires-clause-digits : goal.fitting-requires-clause-digits
fitting-requires-clause-digits c =
    let field = c.args.field.now in
    ap (list_all is_digit) (sym (take-length field)) ∙ leading field _
    (omega (arith, c.read_digits-end.ensures.end, c.read_digits-end.ensures.within, c.if-end-field.false))

pub returns : goal.returns
returns c = c.fitting.ensures ∙ sym (ap (λ b. cond b (Some max_word) (digits_of c.args.field.now))
    (other_text c.args.field.now (codes "-1") _ c.as_slice.ensures c.if-eq.ensures))
