use Rattle.std.proofs.Common.{◌≡◌, drop}
use Rattle.judy_table.specs.Seats.{row_of}
use Rattle.judy_table.proofs.seating.row_of.Given as goal

abbrev pub invariant-loop-row : goal.invariant-loop-row
invariant-loop-row l = row_of l.name l.rows ≡ row_of l.name (drop l.row-index l.rows)
