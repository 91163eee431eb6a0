use Rattle.std.proofs.Common.{arith}
use Rattle.judy_bytes.proofs.Buckets.{bucket-long}
use Rattle.judy_arena.proofs.lemmas.RoomLaws.{room-covers}
use Rattle.judy_bytes.proofs.bucket.value.Goals as goal

pub get-requires : goal.get-requires
get-requires c = omega (arith, bucket-long room-covers c.args.arena.now.blocks c.args.bucket c.requires)
