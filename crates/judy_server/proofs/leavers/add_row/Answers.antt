use Rattle.std.proofs.Common.{◌+◌, subst, arith, take}
use Rattle.judy_server.specs.Reloads.{AreGathered, lacking}
use Rattle.judy_server.proofs.Gathering.{gone-next, kept-next}
use Rattle.judy_server.proofs.leavers.add_row.Goals as goal

pub returns-then-is_kept : goal.returns-then-is_kept
returns-then-is_kept g c is h =
    subst (λ l. AreGathered l c.args.first.now c.args.request.now.items)
    (kept-next c.args.table.now c.args.service.now.tenants c.args.row (c.args.row + 1) (omega arith)
    (rw c.tenant-tenant.ensures at (rw c.if-is_kept.true at c.is_kept.ensures)))
    h

pub returns : goal.returns
returns g c is h =
    subst (λ l. AreGathered l c.add_leaver.new.first c.add_leaver.new.request.items)
    (gone-next c.args.table.now c.args.service.now.tenants c.args.row (c.args.row + 1) c.name.result.now (omega arith)
    (rw c.tenant-tenant.ensures at (rw c.if-is_kept.false at c.is_kept.ensures)) (rw c.tenant-tenant.ensures at c.name.ensures))
    (c.add_leaver.ensures is (lacking (take c.args.row c.args.service.now.tenants) c.args.table.now) h)
