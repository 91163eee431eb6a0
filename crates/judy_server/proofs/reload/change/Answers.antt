use Rattle.std.proofs.Common.{◌∙◌, ap, sym}
use Rattle.std.specs.Prelude.{option_map}
use Rattle.judy_server.specs.Orders.{freeze_of}
use Rattle.judy_server.proofs.lemmas.Freezing.{if-made, ordered-reload}
use Rattle.judy_server.proofs.lemmas.Orders.{seated-reload}
use Rattle.judy_server.proofs.reload.change.Goals as goal

pub returns-in-Some : goal.returns-in-Some
returns-in-Some g c =
    if-made _ c.carry_out.result
    (ordered-reload _ c.args.text.now _ _ (sym c.read_order.ensures ∙ ap (option_map (λ o. freeze_of o.name.now o.frozen)) c.in-Some.is))
    c.carry_out.ensures

pub returns-in-None : goal.returns-in-None
returns-in-None g c =
    if-made _ c.change_table.result
    (seated-reload _ c.args.text.now _ (sym c.read_order.ensures ∙ ap (option_map (λ o. freeze_of o.name.now o.frozen)) c.in-None.is))
    c.change_table.ensures
