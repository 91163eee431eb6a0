use Rattle.judy_arena.specs.Takes.{TakesNothing}
use Rattle.std.proofs.Common.{◌≡◌}
use Rattle.judy_bytes.proofs.Clears.{IsPartly}
use Rattle.judy_bytes.proofs.array.JudyHS.clear.Given as goal

abbrev pub invariant-loop-place : goal.invariant-loop-place
invariant-loop-place g l = record {
  words : l.words ≡ l.fn.self.words;
  partly : IsPartly g.H.KeyHash.hashed l.fn.arena.blocks l.arena.blocks l.fn.self.words l.place l.found l.count;
  memory : TakesNothing l.fn.arena l.arena;
}
