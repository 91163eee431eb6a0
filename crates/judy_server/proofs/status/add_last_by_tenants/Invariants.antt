use Rattle.std.proofs.Common.{◌≡◌, ◌++◌, drop}
use Rattle.std.specs.Prelude.{flat_map}
use Rattle.judy_server.specs.Status.{by_tenant, last_shares}
use Rattle.judy_server.specs.Tally.{tallied}
use Rattle.judy_server.proofs.status.add_last_by_tenants.Given as goal

abbrev pub invariant-loop-share : goal.invariant-loop-share
invariant-loop-share g l = record {
  items : l.share-items ≡ last_shares;
  text : l.text.items ++ flat_map (by_tenant (tallied l.fn.service l.fn.tally)) (drop l.share-index last_shares)
      ≡ l.fn.text.items ++ flat_map (by_tenant (tallied l.fn.service l.fn.tally)) last_shares;
}
