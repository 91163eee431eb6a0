use Rattle.std.proofs.Common.{arith, refl}
use Rattle.judy_server.specs.Status.{first_totals, one_total}
use Rattle.judy_server.specs.Tally.{tallied}
use Rattle.judy_server.proofs.Texting.{items_on}
use Rattle.judy_server.proofs.status.add_totals.Goals as goal

pub loop-which-preserved : goal.loop-which-preserved
loop-which-preserved g c = record {
  items = refl;
  text = items_on (one_total (tallied c.args.service.now c.args.tally.now)) first_totals c.loop-which.which-index _ c.loop-which.text.items
      c.add_total.new.text.items _ (omega arith) c.in_ok-add_total.ensures c.loop-which.invariant.text;
}
