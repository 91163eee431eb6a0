use Rattle.std.proofs.Common.{refl}
use Rattle.judy_string.specs.StringArrays.{string_numbers}
use Rattle.judy_arena.proofs.lemmas.FrameLaws.{frame-same}
use Rattle.judy_kinds.proofs.string.delete_if.Goals as goal

pub returns-else-had-value-clause-array : goal.returns-else-had-value-clause-array
returns-else-had-value-clause-array c = record {
  sound = c.requires.array;
  frame = frame-same c.args.arena.now.blocks (string_numbers c.args.arena.now.blocks c.args.place.root)
      (c.blocks_are_live.ensures c.args.arena.now.blocks c.args.place.root _ _
      (record { sound = c.requires.array; content = refl; blocks = refl })).0;
}

pub returns-in-None-clause-array : goal.returns-in-None-clause-array
returns-in-None-clause-array c = record {
  sound = c.requires.array;
  frame = frame-same c.args.arena.now.blocks (string_numbers c.args.arena.now.blocks c.args.place.root)
      (c.blocks_are_live.ensures c.args.arena.now.blocks c.args.place.root _ _
      (record { sound = c.requires.array; content = refl; blocks = refl })).0;
}
