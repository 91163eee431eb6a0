-- all keys before the place are below the word
use Rattle.std.proofs.Common.{ℕ, ◌<◌, get_or}
use Rattle.judy_leaf.proofs.keys.rank.Given as goal

abbrev pub invariant-loop-place : goal.invariant-loop-place
invariant-loop-place l = (i : ℕ) → i < l.place → get_or l.keys i 0 < l.x
