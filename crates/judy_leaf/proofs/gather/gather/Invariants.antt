use Rattle.std.proofs.Common.{◌≡◌, ℕ, ◌+◌, ◌<◌, length, get_or}
use Rattle.judy_leaf.specs.Views.{of_leaf}
use Rattle.judy_leaf.proofs.gather.gather.Given as goal

abbrev pub invariant-loop-i : goal.invariant-loop-i
invariant-loop-i l =
    (length l.keys ≡ length l.fn.keys) × (length l.vals ≡ length l.fn.vals)
    × ((j : ℕ) → j < l.i → get_or l.keys j 0 ≡ (get_or (of_leaf l.leaf) (l.from + j) (0, 0)).0)
    × ((j : ℕ) → j < l.i → get_or l.vals j 0 ≡ (get_or (of_leaf l.leaf) (l.from + j) (0, 0)).1)
