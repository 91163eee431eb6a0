use Rattle.std.proofs.Common.{◌≡◌, ◌∙◌, Some, ap, arith, codes, length, refl, sym}
use Rattle.std.specs.Prelude.{slice_index}
use Rattle.judy_server.specs.Tally.{call_names}
use Rattle.judy_server.specs.declared.tally.TheConstants.{CALLS}
use Rattle.judy_server.specs.declared.metrics.Metric.TheVariants.{Lines}
use Rattle.judy_server.proofs.Texting.{samples_all, samples_on}
use Rattle.judy_server.proofs.status.add_calls.Goals as goal

pub loop-place-preserved : goal.loop-place-preserved
loop-place-preserved c = record {
  text = samples_on Lines (codes "call") (slice_index c.args.tally.now.lines) c.loop-place.place _ c.count_at-n.result call_names c.as_bytes.result.now
      c.loop-place.text.items c.add_if.new.text.items _ (omega arith) (c.call_name.ensures ∙ ap Some (sym c.as_bytes.ensures.value)) c.count_at-n.ensures
      c.in_ok-add_if.ensures c.loop-place.invariant.text;
}

count : length call_names ≡ CALLS
unfolding call_names
count = refl

pub returns : goal.returns
returns c = samples_all Lines (codes "call") (slice_index c.args.tally.now.lines) c.loop-place.place call_names c.loop-place.text.items _ (omega (arith, count))
    c.loop-place.invariant.text
