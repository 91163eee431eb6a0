-- Replies that own their bytes.
use Rattle.std.specs.Prelude.{◌≤◌, length}
use Rattle.judy_model.specs.declared.lists.TheConstants.{INTERSECTION_LIMIT}
use Rattle.judy_model.specs.declared.lists.ReplyRoom.{ReplyRoom}
use Rattle.judy_model.specs.declared.replies.Reply.{Reply}
use Rattle.judy_model.specs.declared.replies.Reply.TheVariants.{Entries, Intersection, ValueKey}

-- the reply with the bytes in this room in place of its own
abbrev pub with_room : ReplyRoom → Reply → Reply
with_room room (ValueKey v _) = ValueKey v room.key.items
with_room room (Entries k _) = Entries k room.listing
with_room room (Intersection next k _) = Intersection next k room.listing
with_room room reply = reply

-- the bytes in this room are few enough for the reply
abbrev pub IsRoomOf : ReplyRoom → Reply → Type 0
IsRoomOf room (Intersection next k _) = length room.listing ≤ INTERSECTION_LIMIT
IsRoomOf room reply = Unit {0}
