use Rattle.std.proofs.Common.{◌≡◌, ◌+◌, ◌-◌, length}
use Rattle.judy_recovery.specs.Played.{len_of_lines}
use Rattle.judy_recovery.proofs.pieces.start_of.Given as goal

abbrev pub invariant-loop-line : goal.invariant-loop-line
invariant-loop-line l =
    len_of_lines l.fn.halt.played l.fn.records + length l.rest ≡ length l.fn.records + len_of_lines (l.fn.halt.played - l._line) l.rest
