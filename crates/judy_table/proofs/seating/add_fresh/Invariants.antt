use Rattle.std.proofs.Common.{◌≡◌, ◌++◌, drop}
use Rattle.judy_table.specs.Seats.{fresh_in}
use Rattle.judy_table.proofs.seating.add_fresh.Given as goal

-- what was appended, and what is left
abbrev pub invariant-loop-place : goal.invariant-loop-place
invariant-loop-place l =
    l.fn.room.items ++ fresh_in l.rows (drop l.next l.table) ≡ l.room.items ++ fresh_in l.rows (drop l.place l.table)
