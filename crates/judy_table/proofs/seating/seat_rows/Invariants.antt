use Rattle.std.proofs.Common.{◌≡◌, ◌++◌, drop}
use Rattle.judy_table.specs.Seats.{fresh_in, placed, seated}
use Rattle.judy_table.proofs.seating.seat_rows.Given as goal

-- the rows that have their places, and those that are left
abbrev pub invariant-loop-row : goal.invariant-loop-row
invariant-loop-row l =
    seated l.rows l.table ≡ l.room.items ++ placed l.table (drop l.row-index l.rows) (fresh_in l.rows (drop l.next l.table))
