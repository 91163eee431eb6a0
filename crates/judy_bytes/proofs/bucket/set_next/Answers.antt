use Rattle.std.proofs.Common.{arith}
use Rattle.judy_bytes.proofs.Buckets.{bucket-long}
use Rattle.judy_arena.proofs.lemmas.RoomLaws.{room-covers}
use Rattle.judy_bytes.proofs.bucket.set_next.Goals as goal

pub set-requires : goal.set-requires
set-requires c = omega (arith, bucket-long room-covers c.args.arena.now.blocks c.args.bucket c.requires)
