use Rattle.std.proofs.Common.{◌∙◌, Some, ap, sym}
use Rattle.judy_server.proofs.Having.{kept_named, kept_vacant}
use Rattle.judy_server.proofs.leavers.is_kept.Goals as goal

pub returns-then-is_vacant : goal.returns-then-is_vacant
returns-then-is_vacant g c =
    kept_vacant c.args.table.now c.args.service.now.tenants c.args.tenant (rw c.if-is_vacant.true at c.is_vacant.ensures)
    ∙ ap Some (sym c.if-is_vacant.true)

pub returns-else-is_vacant : goal.returns-else-is_vacant
returns-else-is_vacant g c =
    kept_named c.args.table.now c.args.service.now.tenants c.args.tenant c.name.result.now c.is_some.result
    (rw c.if-is_vacant.false at c.is_vacant.ensures) c.name.ensures (rw c.find.ensures at c.is_some.ensures)
