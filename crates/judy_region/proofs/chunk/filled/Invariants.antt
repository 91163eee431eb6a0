use Rattle.std.proofs.Common.{◌≡◌, ◌++◌}
use Rattle.judy_region.specs.Flat.{zeros}
use Rattle.judy_region.proofs.chunk.filled.Given as goal

abbrev pub invariant-loop-count : goal.invariant-loop-count
invariant-loop-count l = (l.more.at ≡ l.initial.more.at) × (l.more.words ≡ l.initial.more.words ++ zeros l._count)
