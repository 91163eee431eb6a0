use Rattle.std.proofs.Common.{◌≡◌, ◌++◌, codes, drop, map}
use Rattle.judy_server.specs.Status.{number_of, samples}
use Rattle.judy_server.specs.Tally.{tallied}
use Rattle.judy_server.specs.declared.metrics.Metric.TheVariants.{Share}
use Rattle.judy_server.proofs.status.add_shares.Given as goal

abbrev pub invariant-loop-place : goal.invariant-loop-place
invariant-loop-place g l = record {
  text : l.text.items ++ samples (Share l.fn.share) (codes "tenant") (number_of (tallied l.fn.service l.fn.tally) l.fn.share) l.place
      (drop l.place (map (λ row. row.name) l.fn.service.tenants))
      ≡ l.fn.text.items ++ samples (Share l.fn.share) (codes "tenant") (number_of (tallied l.fn.service l.fn.tally) l.fn.share) 0
      (map (λ row. row.name) l.fn.service.tenants);
}
