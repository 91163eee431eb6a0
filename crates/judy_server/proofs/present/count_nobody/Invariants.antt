use Rattle.std.proofs.Common.{◌≡◌, ◌≤◌, map, take}
use Rattle.std.specs.Prelude.{count_by, option_map}
use Rattle.judy_table.specs.Shown.{seen}
use Rattle.judy_server.specs.Present.{is_nobody}
use Rattle.judy_server.proofs.present.count_nobody.Given as goal

abbrev pub invariant-loop-at : goal.invariant-loop-at
invariant-loop-at l = record {
  counted : l.count ≡ count_by is_nobody (take l.at (map (option_map seen) l.fn.speakers));
  few : l.count ≤ l.at;
}
