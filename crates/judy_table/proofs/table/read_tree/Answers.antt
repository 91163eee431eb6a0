use Rattle.std.proofs.Common.{◌≤◌, ◌∙◌, sym, nat_le}
use Rattle.std.proofs.lemmas.Bool.{and_parts, leb-true}
use Rattle.toml.specs.View.{table_view}
use Rattle.judy_table.specs.Tenants.{size}
use Rattle.judy_table.proofs.Trees.{tree-rows}
use Rattle.judy_table.proofs.table.read_tree.Goals as goal

pub invariant_of-result : goal.invariant_of-result
invariant_of-result c =
    let n = size (table_view c.args.tree.now) in
    let counted = (and_parts (nat_le 1 n) (nat_le n 64) (◌∙◌ (sym c.has_count.ensures) c.if-not-has_count.false)).1 in
    let fits : n ≤ 64 = leb-true n 64 counted in
    tree-rows (table_view c.args.tree.now) c.read_tenants.new.room.items c.in_ok-read_tenants.ensures.ok fits c.in_ok-read_tenants.ensures.sorted
