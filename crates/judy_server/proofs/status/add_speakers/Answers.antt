use Rattle.std.proofs.Common.{arith, codes, map}
use Rattle.std.specs.Prelude.{count_by, option_map}
use Rattle.std.proofs.lemmas.List.{length-map}
use Rattle.judy_table.specs.Shown.{seen}
use Rattle.judy_server.specs.Present.{speaks_for}
use Rattle.judy_server.specs.declared.metrics.Metric.TheVariants.{Connections}
use Rattle.judy_server.proofs.Texting.{samples_all, samples_on}
use Rattle.judy_server.proofs.status.add_speakers.Goals as goal

pub loop-place-preserved : goal.loop-place-preserved
loop-place-preserved g c = record {
  text = samples_on Connections (codes "tenant") (λ place. count_by (speaks_for place) (map (option_map seen) c.args.speakers.now)) c.loop-place.place _
      c.count_tenant-n.result (map (λ row. row.name) c.args.service.now.tenants) c.name.result.now c.loop-place.text.items c.add_if.new.text.items _ (omega arith)
      (rw c.tenant-tenant.ensures at c.name.ensures)
      (rw (← c.tenant-tenant.ensures) c.count_tenant-n.ensures)
      c.in_ok-add_if.ensures c.loop-place.invariant.text;
}

pub returns : goal.returns
returns g c = samples_all Connections (codes "tenant") (λ place. count_by (speaks_for place) (map (option_map seen) c.args.speakers.now)) c.loop-place.place
    (map (λ row. row.name) c.args.service.now.tenants) c.loop-place.text.items _
    (simp length-map (omega (arith, c.tenants-place-end.ensures))) c.loop-place.invariant.text
