use Rattle.std.proofs.Common.{◌≡◌, length}
use Rattle.judy_model.specs.Grammar.{fields_of}
use Rattle.judy_upkeep.specs.Printing.{is_among}
use Rattle.judy_upkeep.proofs.printing.is_among.Given as goal

abbrev pub invariant-loop-field : goal.invariant-loop-field
invariant-loop-field l = is_among (fields_of l.rest) l.fn.name ≡ is_among (fields_of l.fn.fields) l.fn.name

abbrev pub decreases-loop-field : goal.decreases-loop-field
decreases-loop-field l = length (fields_of l.rest)
