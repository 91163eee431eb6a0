use Rattle.std.proofs.Common.{◌≡◌, ◌++◌, codes, drop}
use Rattle.std.specs.Prelude.{slice_index}
use Rattle.judy_server.specs.Status.{samples}
use Rattle.judy_server.specs.Tally.{reply_kinds}
use Rattle.judy_server.specs.declared.metrics.Metric.TheVariants.{Replies}
use Rattle.judy_server.proofs.status.add_kinds.Given as goal

abbrev pub invariant-loop-place : goal.invariant-loop-place
invariant-loop-place l = record {
  text : l.text.items ++ samples Replies (codes "kind") (slice_index l.tally.replies) l.place (drop l.place reply_kinds)
      ≡ l.fn.text.items ++ samples Replies (codes "kind") (slice_index l.fn.tally.replies) 0 reply_kinds;
}
