use Rattle.std.proofs.Common.{◌≤◌, length}
use Rattle.judy_arena.specs.Blocks.{words_of}
use Rattle.bench.proofs.arena.write.Given as goal

abbrev pub invariant-loop-i : goal.invariant-loop-i
invariant-loop-i l = 512 ≤ length (words_of l.arena.blocks l.block)
