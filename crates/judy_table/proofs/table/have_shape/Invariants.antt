use Rattle.std.proofs.Common.{◌≡◌, is_some}
use Rattle.std.specs.List.{list_all}
use Rattle.toml.specs.View.{table_view, view}
use Rattle.judy_table.specs.Tenants.{have_shape, written}
use Rattle.judy_table.proofs.table.have_shape.Given as goal

abbrev pub invariant-loop-value : goal.invariant-loop-value
invariant-loop-value l =
    (goal.iterator-loop-value).can_next l.value-iterator ×
    (goal.iterator-loop-value).is_finite l.value-iterator ×
    (have_shape (table_view l.fn.tree) ≡ list_all (λ v. is_some (written (view v))) l.value-iterator)
