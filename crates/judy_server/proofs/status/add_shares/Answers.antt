use Rattle.std.proofs.Common.{arith, codes, map}
use Rattle.std.proofs.lemmas.List.{length-map}
use Rattle.judy_server.specs.Status.{number_of}
use Rattle.judy_server.specs.Tally.{tallied}
use Rattle.judy_server.specs.declared.metrics.Metric.TheVariants.{Share}
use Rattle.judy_server.proofs.Texting.{samples_all, samples_on}
use Rattle.judy_server.proofs.status.add_shares.Goals as goal

pub loop-place-preserved : goal.loop-place-preserved
loop-place-preserved g c = record {
  text = samples_on (Share c.args.share) (codes "tenant") (number_of (tallied c.args.service.now c.args.tally.now) c.args.share) c.loop-place.place _
      c.number-n.result (map (λ row. row.name) c.args.service.now.tenants) c.name.result.now c.loop-place.text.items c.add_if.new.text.items _ (omega arith)
      (rw c.tenant-tenant.ensures at c.name.ensures)
      (rw (← c.tenant-tenant.ensures) c.number-n.ensures)
      c.in_ok-add_if.ensures c.loop-place.invariant.text;
}

pub returns : goal.returns
returns g c = samples_all (Share c.args.share) (codes "tenant") (number_of (tallied c.args.service.now c.args.tally.now) c.args.share) c.loop-place.place
    (map (λ row. row.name) c.args.service.now.tenants) c.loop-place.text.items _
    (simp length-map (omega (arith, c.tenants-place-end.ensures))) c.loop-place.invariant.text
