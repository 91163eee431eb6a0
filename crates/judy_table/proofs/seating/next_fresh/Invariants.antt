use Rattle.std.proofs.Common.{◌≡◌, drop}
use Rattle.judy_table.specs.Seats.{fresh_in}
use Rattle.judy_table.proofs.seating.next_fresh.Given as goal

-- none is fresh up to the place
abbrev pub invariant-loop-place : goal.invariant-loop-place
invariant-loop-place l = fresh_in l.rows (drop l.fn.next l.table) ≡ fresh_in l.rows (drop l.place l.table)
