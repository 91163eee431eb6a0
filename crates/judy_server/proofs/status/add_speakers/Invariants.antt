use Rattle.std.proofs.Common.{◌≡◌, ◌++◌, codes, drop, map}
use Rattle.std.specs.Prelude.{count_by, option_map}
use Rattle.judy_table.specs.Shown.{seen}
use Rattle.judy_server.specs.Present.{speaks_for}
use Rattle.judy_server.specs.Status.{samples}
use Rattle.judy_server.specs.declared.metrics.Metric.TheVariants.{Connections}
use Rattle.judy_server.proofs.status.add_speakers.Given as goal

abbrev pub invariant-loop-place : goal.invariant-loop-place
invariant-loop-place g l = record {
  text : l.text.items ++ samples Connections (codes "tenant") (λ place. count_by (speaks_for place) (map (option_map seen) l.fn.speakers)) l.place
      (drop l.place (map (λ row. row.name) l.fn.service.tenants))
      ≡ l.fn.text.items ++ samples Connections (codes "tenant") (λ place. count_by (speaks_for place) (map (option_map seen) l.fn.speakers)) 0
      (map (λ row. row.name) l.fn.service.tenants);
}
