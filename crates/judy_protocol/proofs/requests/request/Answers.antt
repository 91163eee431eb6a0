use Rattle.std.proofs.Common.{sym, refl, ◌∙◌}
use Rattle.judy_model.specs.Grammar.{fields_of}
use Rattle.judy_protocol.proofs.Spelled.{is_named}
use Rattle.judy_protocol.proofs.requests.request.Goals as goal

pub returns : goal.returns
returns c = c.named_request.ensures
    ∙ sym (is_named c.args.line.now c.in-Some.word.now c.in-Some-next_field.name.now c.in-Some-read.name
    (fields_of c.in-Some.after_word.now) (fields_of c.in-Some-next_field.after_name.now) (fields_of c.in-Some-next_field.after_name.now)
    c.in-Some.ensures c.in-Some-next_field.ensures refl (sym c.read.ensures ∙ c.in-Some-read.is))
