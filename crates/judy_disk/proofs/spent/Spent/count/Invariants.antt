use Rattle.std.proofs.Common.{◌≡◌, ◌+◌, ℕ, Bool, List, length}
use Rattle.judy_model.specs.Stream.{lines_of}
use Rattle.judy_disk.specs.Spending.{spent_by, spent_in}
use Rattle.judy_disk.proofs.spent.Spent.count.Given as goal

abbrev pub invariant-loop-line : goal.invariant-loop-line
invariant-loop-line l = (chosen : ℕ → List ℕ → Bool)
    → spent_by chosen l.self.shares.items + spent_in chosen l.segment (lines_of l.rest)
    ≡ spent_by chosen l.fn.self.shares.items + spent_in chosen l.segment (lines_of l.fn.text)

abbrev pub decreases-loop-line : goal.decreases-loop-line
decreases-loop-line l = length l.rest
