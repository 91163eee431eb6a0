use Rattle.std.proofs.Common.{◌≡◌, ◌<◌, ◌≤◌, ◌+◌, ◌*◌, take}
use Rattle.judy_arena.specs.Blocks.{words_of, put}
use Rattle.judy_arena.specs.Ready.{greatest}
use Rattle.judy_arena.specs.Layout.{size_of}
use Rattle.judy_arena.proofs.pool.Pool.cut.Given as goal

abbrev pub invariant-loop-now : goal.invariant-loop-now
invariant-loop-now l = (l.self.blocks ≡ put l.initial.self.blocks l.n (take (size_of l.now) (words_of l.initial.self.blocks l.n)))
    × (greatest l.initial.self.heads ≤ greatest l.self.heads) × (l.class ≤ l.now) × (l.now ≤ l.from)
    × (l.now < l.from → size_of l.from ≤ 2 * greatest l.self.heads) × (l.self.region ≡ l.initial.self.region)
    × (l.self.free + size_of l.now ≡ l.initial.self.free + size_of l.from)

abbrev pub decreases-loop-now : goal.decreases-loop-now
decreases-loop-now l = l.now
