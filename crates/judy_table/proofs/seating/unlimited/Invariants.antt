use Rattle.std.proofs.Common.{◌≡◌, take}
use Rattle.judy_table.specs.Unlimited.{unlimited}
use Rattle.judy_table.proofs.seating.unlimited.Given as goal

abbrev pub invariant-loop-row : goal.invariant-loop-row
invariant-loop-row l = l.room.items ≡ unlimited (take l.row-index l.rows)
