use Rattle.std.proofs.Common.{◌≡◌, ◌<◌, ◌≤◌, ◌+◌, ◌-◌, max, slice_index}
use Rattle.judy_arena.proofs.pool.Pool.prepare.Given as goal

abbrev pub invariant-loop-alloc : goal.invariant-loop-alloc
invariant-loop-alloc l = (l.self.blocks ≡ l.initial.self.blocks) × (l.initial.self.region ≤ l.self.region)
    × (l.self.region ≤ max l.initial.self.region (l.words + 511))
    × (l.initial.self.region < l.self.region → 0 < slice_index l.self.heads 7)
    × (l.self.free + l.initial.self.region ≡ l.initial.self.free + l.self.region)

abbrev pub decreases-loop-alloc : goal.decreases-loop-alloc
decreases-loop-alloc l = l.words - l.self.region
