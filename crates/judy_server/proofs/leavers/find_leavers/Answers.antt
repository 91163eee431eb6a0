use Rattle.std.proofs.Common.{◌∙◌, subst, sym}
use Rattle.std.specs.Prelude.{IfOk}
use Rattle.judy_many.specs.Changes.{AreLeavers}
use Rattle.judy_server.specs.Orders.{freeze_of}
use Rattle.judy_server.proofs.Gathering.{leavers-order, leavers-table, told-none}
use Rattle.judy_server.proofs.lemmas.Freezing.{no-order}
use Rattle.judy_server.proofs.leavers.find_leavers.Goals as goal

pub returns-then-is_some : goal.returns-then-is_some
returns-then-is_some g c =
    leavers-order (λ o. freeze_of o.name.now o.frozen) c.args.service.now.tenants c.args.text.now c.read_order.result c.read_order.ensures
    (sym c.is_some.ensures ∙ c.if-is_some.true)

pub returns-in-Ok : goal.returns-in-Ok
returns-in-Ok g c =
    subst (λ l. IfOk c.find_lacking.result (λ first. AreLeavers l first c.find_lacking.new.request.items))
    (leavers-table c.args.service.now.tenants _ c.args.text.now
    (no-order (λ o. freeze_of o.name.now o.frozen) c.args.text.now c.read_order.result c.read_order.ensures (sym c.is_some.ensures ∙ c.if-is_some.false))
    c.in-Ok.ensures.ok)
    c.find_lacking.ensures

pub returns-in-Err : goal.returns-in-Err
returns-in-Err g c =
    told-none c.args.service.now.tenants c.args.text.now c.args.request.now.items c.in-Err.fault c.without_table.result
    (no-order (λ o. freeze_of o.name.now o.frozen) c.args.text.now c.read_order.result c.read_order.ensures (sym c.is_some.ensures ∙ c.if-is_some.false))
    c.in-Err.ensures.fault c.without_table.ensures
