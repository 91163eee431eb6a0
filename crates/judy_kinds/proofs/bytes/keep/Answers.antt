use Rattle.std.proofs.Common.{refl}
use Rattle.judy_bytes.specs.BytesArrays.{bytes_numbers}
use Rattle.judy_arena.proofs.lemmas.FrameLaws.{frame-same}
use Rattle.judy_kinds.proofs.bytes.keep.Goals as goal

pub returns-in-Some-clause-array : goal.returns-in-Some-clause-array
returns-in-Some-clause-array g c = record {
  sound = c.requires.array;
  frame = frame-same c.args.arena.now.blocks (bytes_numbers c.args.arena.now.blocks c.args.place.root)
      (c.blocks_are_live.ensures g.H.KeyHash.hashed c.args.arena.now.blocks c.args.place.root _ _
      (record { sound = c.requires.array; content = refl; blocks = refl })).0;
}
