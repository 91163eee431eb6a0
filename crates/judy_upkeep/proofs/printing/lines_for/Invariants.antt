use Rattle.std.proofs.Common.{◌≡◌, ◌++◌, length}
use Rattle.judy_model.specs.Stream.{lines_of}
use Rattle.judy_upkeep.specs.Printing.{name_of, printed_lines}
use Rattle.judy_upkeep.proofs.printing.lines_for.Given as goal

abbrev pub invariant-loop-text : goal.invariant-loop-text
invariant-loop-text l = l.lines.items ++ printed_lines (name_of l.fn.tenant) (lines_of l.rest)
    ≡ printed_lines (name_of l.fn.tenant) (lines_of l.fn.records)

abbrev pub decreases-loop-text : goal.decreases-loop-text
decreases-loop-text l = length l.rest
