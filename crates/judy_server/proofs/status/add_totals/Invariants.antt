use Rattle.std.proofs.Common.{◌≡◌, ◌++◌, drop}
use Rattle.std.specs.Prelude.{flat_map}
use Rattle.judy_server.specs.Status.{first_totals, one_total}
use Rattle.judy_server.specs.Tally.{tallied}
use Rattle.judy_server.proofs.status.add_totals.Given as goal

abbrev pub invariant-loop-which : goal.invariant-loop-which
invariant-loop-which g l = record {
  items : l.which-items ≡ first_totals;
  text : l.text.items ++ flat_map (one_total (tallied l.fn.service l.fn.tally)) (drop l.which-index first_totals)
      ≡ l.fn.text.items ++ flat_map (one_total (tallied l.fn.service l.fn.tally)) first_totals;
}
