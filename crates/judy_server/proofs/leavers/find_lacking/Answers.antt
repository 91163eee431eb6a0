use Rattle.std.proofs.Common.{subst, arith}
use Rattle.judy_server.specs.Reloads.{AreGathered}
use Rattle.judy_server.proofs.Gathering.{lacking-all, leavers-are}
use Rattle.judy_server.proofs.leavers.find_lacking.Goals as goal

pub returns : goal.returns
returns g c =
    leavers-are c.args.service.now.tenants c.args.table.now c.rows_are_sound.ensures c.loop-row.first c.loop-row.request.items
    (let fits = c.len-len.ensures in omega (arith, fits))
    (subst (λ l. AreGathered l c.loop-row.first c.loop-row.request.items)
    (lacking-all c.args.table.now c.args.service.now.tenants c.loop-row.row (omega (arith, c.tenants-row-end.ensures))) c.loop-row.invariant)
