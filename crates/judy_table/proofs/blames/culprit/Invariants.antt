use Rattle.toml.specs.View.{table_view}
use Rattle.judy_table.proofs.Entries.{AreIn}
use Rattle.judy_table.proofs.blames.culprit.Given as goal

abbrev pub invariant-loop-name : goal.invariant-loop-name
invariant-loop-name l =
    (goal.iterator-loop-name).can_next l.name-iterator ×
    (goal.iterator-loop-name).is_finite l.name-iterator ×
    (AreIn l.name-iterator (table_view l.fn.tree))
