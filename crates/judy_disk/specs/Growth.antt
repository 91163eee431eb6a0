-- A file that is written, as its callers see it.
--     place_of file     which file it is
--     room_of file      its end and its size
--     acts_of file      what was asked of the system about it, since it was opened
use Rattle.std.specs.Prelude.{ℕ, List}
use Rattle.judy_disk.specs.Acts.{Act}
use Rattle.judy_disk.specs.declared.files.Growing.{Growing}
use Rattle.judy_disk.specs.declared.files.NewSnapshot.{NewSnapshot}
use Rattle.judy_disk.specs.declared.names.Place.{Place}
use Rattle.judy_disk.specs.declared.rooms.Room.{Room}

abbrev pub place_of : {F A D : Type 0} → Growing F A D → Place
place_of file = file.place

abbrev pub room_of : {F A D : Type 0} → Growing F A D → Room
room_of file = file.room

abbrev pub end_of : {F A D : Type 0} → Growing F A D → ℕ
end_of file = file.room.end

abbrev pub made_of : {F A D : Type 0} → Growing F A D → ℕ
made_of file = file.room.made

abbrev pub acts_of : {F A D : Type 0} → Growing F A D → List Act
acts_of file = file.log.acts

-- the file of a snapshot that is written
abbrev pub file_of : {F A D : Type 0} → NewSnapshot F A D → Growing F A D
file_of snapshot = snapshot.file
