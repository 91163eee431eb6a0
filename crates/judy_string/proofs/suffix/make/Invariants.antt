use Rattle.std.proofs.Common.{◌≡◌, ◌+◌, ◌≤◌, [], ◌∷◌, length}
use Rattle.judy_arena.specs.Blocks.{words_of}
use Rattle.judy_arena.specs.Frame.{Frame}
use Rattle.judy_arena.specs.Room.{room}
use Rattle.judy_arena.specs.Takes.{Takes}
use Rattle.judy_string.proofs.Suffixes.{IsFilled}
use Rattle.judy_string.proofs.suffix.make.Given as goal

abbrev pub invariant-loop-j : goal.invariant-loop-j
invariant-loop-j l = record {
  frame : Frame l.fn.arena.blocks l.arena.blocks [] (l.block ∷ []);
  wide : 2 + l.words ≤ length (words_of l.arena.blocks l.block);
  exact : length (words_of l.arena.blocks l.block) ≡ room (2 + l.words);
  filled : IsFilled l.j (words_of l.arena.blocks l.block) l.string l.value;
  refusals : l.arena.refusals ≡ l.fn.arena.refusals;
  memory : Takes 1 l.fn.arena l.arena;
}
