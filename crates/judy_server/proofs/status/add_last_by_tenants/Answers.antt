use Rattle.std.proofs.Common.{arith, refl}
use Rattle.judy_server.specs.Status.{by_tenant, last_shares}
use Rattle.judy_server.specs.Tally.{tallied}
use Rattle.judy_server.proofs.Texting.{items_on}
use Rattle.judy_server.proofs.status.add_last_by_tenants.Goals as goal

pub loop-share-preserved : goal.loop-share-preserved
loop-share-preserved g c = record {
  items = refl;
  text = items_on (by_tenant (tallied c.args.service.now c.args.tally.now)) last_shares c.loop-share.share-index _ c.loop-share.text.items
      c.add_by_tenant.new.text.items _ (omega arith) c.in_ok-add_by_tenant.ensures c.loop-share.invariant.text;
}
