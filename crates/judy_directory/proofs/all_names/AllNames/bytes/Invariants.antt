use Rattle.std.proofs.Common.{◌≡◌, ◌+◌, ◌%◌, ◌^◌, length}
use Rattle.judy_directory.specs.Lengths.{lengths}
use Rattle.judy_directory.proofs.all_names.AllNames.bytes.Given as goal

-- the bytes so far, and those of the names that are still to come
abbrev pub invariant-loop-spot : goal.invariant-loop-spot
invariant-loop-spot l = (l.bytes + lengths l.self) % 2 ^ 64 ≡ lengths l.fn.self % 2 ^ 64

abbrev pub decreases-loop-spot : goal.decreases-loop-spot
decreases-loop-spot l = length l.self
