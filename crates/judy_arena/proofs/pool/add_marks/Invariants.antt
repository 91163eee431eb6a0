use Rattle.std.proofs.Common.{◌≡◌, ◌++◌}
use Rattle.std.specs.Prelude.{vec_capacity}
use Rattle.judy_region.specs.Flat.{zeros}
use Rattle.judy_arena.proofs.pool.add_marks.Given as goal

abbrev pub invariant-loop-count : goal.invariant-loop-count
invariant-loop-count l = (vec_capacity l.marks ≡ vec_capacity l.initial.marks) × (l.marks.items ≡ l.initial.marks.items ++ zeros l._count)
