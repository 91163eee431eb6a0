use Rattle.std.proofs.Common.{◌≡◌, ◌++◌, codes, drop}
use Rattle.std.specs.Prelude.{slice_index}
use Rattle.judy_server.specs.Status.{samples}
use Rattle.judy_server.specs.Tally.{call_names}
use Rattle.judy_server.specs.declared.metrics.Metric.TheVariants.{Lines}
use Rattle.judy_server.proofs.status.add_calls.Given as goal

abbrev pub invariant-loop-place : goal.invariant-loop-place
invariant-loop-place l = record {
  text : l.text.items ++ samples Lines (codes "call") (slice_index l.tally.lines) l.place (drop l.place call_names)
      ≡ l.fn.text.items ++ samples Lines (codes "call") (slice_index l.fn.tally.lines) 0 call_names;
}
