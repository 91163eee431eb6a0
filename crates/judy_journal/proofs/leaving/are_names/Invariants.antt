use Rattle.std.proofs.Common.{◌≡◌, length}
use Rattle.std.specs.List.{list_all}
use Rattle.judy_model.specs.Grammar.{fields_of, is_name}
use Rattle.judy_journal.proofs.leaving.are_names.Given as goal

abbrev pub invariant-loop-field : goal.invariant-loop-field
invariant-loop-field l = list_all is_name (fields_of l.rest) ≡ list_all is_name (fields_of l.fn.fields)

abbrev pub decreases-loop-field : goal.decreases-loop-field
decreases-loop-field l = length (fields_of l.rest)
