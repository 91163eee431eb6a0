use Rattle.std.proofs.Common.{arith}
use Rattle.judy_server.proofs.Forgetting.{forgotten_all, forgotten_on}
use Rattle.judy_server.proofs.reload.forget_in.Goals as goal

pub loop-place-preserved : goal.loop-place-preserved
loop-place-preserved g c = record {
  counts = forgotten_on c.loop-place.place _ c.args.service.now.tenants c.is_vacant.result c.loop-place.counts c.clear_if.new.counts _ (omega arith)
      (rw c.tenant-tenant.ensures at c.is_vacant.ensures) (rw c.tenant-tenant.ensures at c.clear_if.ensures)
      c.loop-place.invariant.counts;
}

pub returns : goal.returns
returns g c = forgotten_all c.loop-place.place c.args.service.now.tenants c.loop-place.counts _ (omega (arith, c.tenants-place-end.ensures)) c.loop-place.invariant.counts
