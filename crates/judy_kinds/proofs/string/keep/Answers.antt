use Rattle.std.proofs.Common.{refl}
use Rattle.judy_string.specs.StringArrays.{string_numbers}
use Rattle.judy_arena.proofs.lemmas.FrameLaws.{frame-same}
use Rattle.judy_kinds.proofs.string.keep.Goals as goal

pub returns-in-Some-clause-array : goal.returns-in-Some-clause-array
returns-in-Some-clause-array c = record {
  sound = c.requires.array;
  frame = frame-same c.args.arena.now.blocks (string_numbers c.args.arena.now.blocks c.args.place.root)
      (c.blocks_are_live.ensures c.args.arena.now.blocks c.args.place.root _ _
      (record { sound = c.requires.array; content = refl; blocks = refl })).0;
}
