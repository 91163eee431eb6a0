use Rattle.std.proofs.Common.{◌≡◌, ◌+◌, length}
use Rattle.toml.specs.View.{table_view, members_view}
use Rattle.judy_table.specs.Tenants.{size, tenants_in}
use Rattle.judy_table.proofs.Trees.{after}
use Rattle.judy_table.proofs.table.read_tenants.Given as goal

abbrev pub invariant-loop-name : goal.invariant-loop-name
invariant-loop-name l =
    (goal.iterator-loop-name).can_next l.name-iterator ×
    (goal.iterator-loop-name).is_finite l.name-iterator ×
    (tenants_in (table_view l.fn.tree) ≡ after l.room.items (tenants_in (members_view l.name-iterator))) ×
    (length l.room.items + length l.name-iterator ≡ size (table_view l.fn.tree))
