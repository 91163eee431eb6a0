use Rattle.judy_arena.proofs.lemmas.RoomLaws.{room-least}
use Rattle.judy_arena.proofs.laws.room_is_least.Goals as goal

pub returns : goal.returns
returns c = room-least
