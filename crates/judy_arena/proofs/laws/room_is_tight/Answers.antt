use Rattle.judy_arena.proofs.lemmas.RoomLaws.{room-tight}
use Rattle.judy_arena.proofs.laws.room_is_tight.Goals as goal

pub returns : goal.returns
returns c = room-tight
