use Rattle.std.proofs.Common.{◌≤◌}
use Rattle.std.specs.Prelude.{take}
use Rattle.std.specs.List.{All, Contains}
use Rattle.judy_disk.proofs.scan.greatest.Given as goal

-- it is one of them, and those so far are not greater
abbrev pub invariant-loop-number : goal.invariant-loop-number
invariant-loop-number l = Contains l.numbers l.most × All (λ m. m ≤ l.most) (take l.number-index l.numbers)
