use Rattle.std.proofs.Common.{◌≡◌, ◌≤◌, suc, drop}
use Rattle.judy_table.specs.Blames.{line_after}
use Rattle.judy_table.proofs.places.line_after.Given as goal

abbrev pub invariant-loop-byte : goal.invariant-loop-byte
invariant-loop-byte l = (line_after l.line (drop l.byte-index l.before) ≡ line_after 1 l.before) × (l.line ≤ suc l.byte-index)
