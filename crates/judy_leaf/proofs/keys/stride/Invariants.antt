-- all keys that were stepped over are below the word
use Rattle.std.proofs.Common.{ℕ, ◌*◌, ◌<◌, get_or}
use Rattle.judy_leaf.proofs.keys.stride.Given as goal

abbrev pub invariant-loop-step : goal.invariant-loop-step
invariant-loop-step l = (i : ℕ) → i < 4 * l.step → get_or l.keys i 0 < l.x
