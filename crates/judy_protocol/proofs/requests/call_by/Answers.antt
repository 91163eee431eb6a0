use Rattle.std.proofs.Common.{◌∙◌, ap, sym, cond, option_map}
use Rattle.judy_model.specs.declared.calls.Call.TheVariants as calls
use Rattle.judy_model.specs.Grammar.{bytes_call, call_by, fields_of, first_keys_call}
use Rattle.judy_protocol.proofs.requests.call_by.Goals as goal

pub returns-in-Bytes : goal.returns-in-Bytes
returns-in-Bytes c =
    let fields = fields_of c.args.after_name.now in let operation = c.args.command.operation in
    c.of_first_keys.ensures
    ∙ ap (λ b. option_map (λ call. calls.Bytes c.args.name call) (cond b (first_keys_call fields) (bytes_call operation fields)))
    (sym c.if-begins_walk.true ∙ c.begins_walk.ensures)
    ∙ ap (λ kind. call_by kind operation c.args.name fields) (sym c.in-Bytes.is)

pub returns-in-Bytes-2 : goal.returns-in-Bytes-2
returns-in-Bytes-2 c =
    let fields = fields_of c.args.after_name.now in let operation = c.args.command.operation in
    c.of_bytes.ensures
    ∙ ap (λ b. option_map (λ call. calls.Bytes c.args.name call) (cond b (first_keys_call fields) (bytes_call operation fields)))
    (sym c.if-begins_walk.false ∙ c.begins_walk.ensures)
    ∙ ap (λ kind. call_by kind operation c.args.name fields) (sym c.in-Bytes.is)
