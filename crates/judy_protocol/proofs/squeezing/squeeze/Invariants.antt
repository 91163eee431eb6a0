use Rattle.std.proofs.Common.{◌≡◌, ◌++◌, length}
use Rattle.judy_model.specs.Grammar.{fields_of}
use Rattle.judy_protocol.specs.Plain.{short_line, spaced_more}
use Rattle.judy_protocol.proofs.squeezing.squeeze.Given as goal

-- what is made, and the fields that are left, are the short line
abbrev pub invariant-loop-field : goal.invariant-loop-field
invariant-loop-field l = l.room.items ++ spaced_more (fields_of l.rest) ≡ short_line l.fn.line

abbrev pub decreases-loop-field : goal.decreases-loop-field
decreases-loop-field l = length (fields_of l.rest)
