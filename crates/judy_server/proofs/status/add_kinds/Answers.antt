use Rattle.std.proofs.Common.{◌≡◌, ◌∙◌, Some, ap, arith, codes, length, refl, sym}
use Rattle.std.specs.Prelude.{slice_index}
use Rattle.judy_server.specs.Tally.{reply_kinds}
use Rattle.judy_server.specs.declared.metrics.Metric.TheVariants.{Replies}
use Rattle.judy_server.proofs.Texting.{samples_all, samples_on}
use Rattle.judy_server.proofs.status.add_kinds.Goals as goal

pub loop-place-preserved : goal.loop-place-preserved
loop-place-preserved c = record {
  text = samples_on Replies (codes "kind") (slice_index c.args.tally.now.replies) c.loop-place.place _ c.count_at-n.result reply_kinds c.as_bytes.result.now
      c.loop-place.text.items c.add_if.new.text.items _ (omega arith) (c.reply_kind.ensures ∙ ap Some (sym c.as_bytes.ensures.value)) c.count_at-n.ensures
      c.in_ok-add_if.ensures c.loop-place.invariant.text;
}

count : length reply_kinds ≡ 10
unfolding reply_kinds
count = refl

pub returns : goal.returns
returns c = samples_all Replies (codes "kind") (slice_index c.args.tally.now.replies) c.loop-place.place reply_kinds c.loop-place.text.items _ (omega (arith, count))
    c.loop-place.invariant.text
