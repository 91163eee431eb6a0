-- How much room the file of a segment has, and when the next one is made.
--     has_room room limit next    whether a turn of a client has room
--     is_full room limit          whether the next file is begun
--     is_half room limit          whether the next file is made now
--     whole_of room limit         how many bytes the file should have
--     piece_of room size          how many bytes of zeros are written at once
--     room_at len                 a file of this number of bytes
--     room_after, room_filled     the room after bytes were written, or zeros
use Rattle.std.specs.Prelude.{ℕ, Bool, ◌+◌, ◌-◌, ◌/◌, ◌^◌, ◌&&◌, ◌||◌, nat_le, nat_lt, max, min}
use Rattle.judy_disk.specs.declared.rooms.TheConstants.{PIECE, TURN_ROOM}
use Rattle.judy_disk.specs.declared.rooms.Room.{Room}

-- A turn of a client finds room for its bytes in the file. If they may pass the limit, the next file is made.
abbrev pub has_room : Room → ℕ → Bool → Bool
has_room room limit next = nat_le (room.end + TURN_ROOM) room.made && (next || nat_lt (room.end + TURN_ROOM) limit)

-- it has as many bytes as the limit says
abbrev pub is_full : Room → ℕ → Bool
is_full room limit = nat_le limit room.end

-- half of the file is used
abbrev pub is_half : Room → ℕ → Bool
is_half room limit = nat_le (limit / 2) room.end

-- room for a turn behind the limit, or behind the end if the file has passed the limit
abbrev pub whole_of : Room → ℕ → ℕ
whole_of room limit = min (max limit room.end + TURN_ROOM) (2 ^ 64 - 1)

-- what a file lacks of this size, up to a piece
abbrev pub piece_of : Room → ℕ → ℕ
piece_of room size = min (size - room.made) PIECE

-- a file with this number of bytes, and no zeros behind them
abbrev pub room_at : ℕ → Room
room_at len = record { end = len; made = len }

-- the end after this number of bytes was written
abbrev pub end_after : Room → ℕ → ℕ
end_after room len = min (room.end + len) (2 ^ 64 - 1)

-- the room after this number of bytes was written
abbrev pub room_after : Room → ℕ → Room
room_after room len = record { end = end_after room len; made = max room.made (end_after room len) }

-- the room after a piece of zeros was written
abbrev pub room_filled : Room → ℕ → Room
room_filled room size = record { end = room.end; made = min (room.made + piece_of room size) (2 ^ 64 - 1) }
