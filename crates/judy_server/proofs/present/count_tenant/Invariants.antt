use Rattle.std.proofs.Common.{◌≡◌, ◌≤◌, map, take}
use Rattle.std.specs.Prelude.{count_by, option_map}
use Rattle.judy_table.specs.Shown.{seen}
use Rattle.judy_server.specs.Present.{speaks_for}
use Rattle.judy_server.proofs.present.count_tenant.Given as goal

abbrev pub invariant-loop-at : goal.invariant-loop-at
invariant-loop-at l = record {
  counted : l.count ≡ count_by (speaks_for l.fn.tenant) (take l.at (map (option_map seen) l.fn.speakers));
  few : l.count ≤ l.at;
}
