use Rattle.std.proofs.Common.{◌≡◌, ◌&&◌, drop, bytes_eq}
use Rattle.judy_table.proofs.tenant.is_same.Given as goal

-- what was compared, and what is left
abbrev pub invariant-loop-at : goal.invariant-loop-at
invariant-loop-at l = bytes_eq l.fn.digest l.fn.shown ≡ (l.same && bytes_eq (drop l.at l.fn.digest) (drop l.at l.fn.shown))
