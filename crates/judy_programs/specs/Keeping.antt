-- What a directory asks about its current file.
--     current_of, lock_of, folder_of, fault_of    its current file, its lock, its folder, what was refused last
--     Does asks room file done file'              this was asked about a file, and nothing else; whether it was done
--     Appends, Syncs, Closes                      bytes were appended to the current file; it was synced; it was closed
--     IsHeld directory                            it was taken, and is kept
use Rattle.std.specs.Prelude.{◌≡◌, ℕ, Bool, true, false, List, length, Option, Some, None, Result, IsSome, OnErr, OnOk, is_ok}
use Rattle.judy_disk.specs.Acts.{Act, Asks, CutsTo}
use Rattle.judy_disk.specs.Acts.Ask.{Sync, Write}
use Rattle.judy_disk.specs.Growth.{acts_of, end_of, place_of, room_of}
use Rattle.judy_disk.specs.Rooms.{room_after, room_at}
use Rattle.judy_disk.specs.declared.faults.DiskFault.{DiskFault}
use Rattle.judy_disk.specs.declared.files.Growing.{Growing}
use Rattle.judy_disk.specs.declared.folder.Folder.{Folder}
use Rattle.judy_disk.specs.declared.rooms.Room.{Room}
use Rattle.judy_programs.specs.declared.directory.Directory.{Directory}
use Rattle.judy_recovery.specs.declared.faults.JournalFault.{JournalFault}

abbrev pub current_of : {F A D : Type 0} → Directory F A D → Option (Growing F A D)
current_of directory = directory.current

abbrev pub lock_of : {F A D : Type 0} → Directory F A D → Option A
lock_of directory = directory.lock

-- what the disk refused last
abbrev pub fault_of : {F A D : Type 0} → Directory F A D → Option JournalFault
fault_of directory = directory.fault

abbrev pub folder_of : {F A D : Type 0} → Directory F A D → Option (Folder F A D)
folder_of directory = directory.folder

-- its lock and its folder are kept
abbrev pub IsHeld : {F A D : Type 0} → Directory F A D → Type 0
IsHeld directory = IsSome (lock_of directory) × IsSome (folder_of directory)

-- This was asked about a file, and nothing else, and whether it was done is told. If it was, the file has this room.
-- If not, it has the room that it had.
pub record Does {F A D : Type 0} (asks : Result (Unit {0}) DiskFault → List Act → List Act → Type 0) (room : Room)
    (file : Growing F A D) (done : Bool) (file' : Growing F A D) : Type 0 where
  pub result : Result (Unit {0}) DiskFault
  pub done_is : done ≡ is_ok result
  pub asked : asks result (acts_of file) (acts_of file')
  pub place_is : place_of file' ≡ place_of file
  pub room_is : OnOk result (room_of file' ≡ room)
  pub undone : OnErr result (room_of file' ≡ room_of file)

-- Exactly these bytes were appended at the end of the current file, or that failed. Without a current file nothing
-- was asked, and nothing is done.
abbrev pub Appends : {F A D : Type 0} → List ℕ → Option (Growing F A D) → Bool → Option (Growing F A D) → Type 0
Appends bytes None done file' = (done ≡ false) × (file' ≡ None)
Appends bytes (Some file) done None = ⊥
Appends bytes (Some file) done (Some file') =
    Does (Asks (Write (place_of file) (end_of file) bytes)) (room_after (room_of file) (length bytes)) file done file'

-- The bytes of the current file were synced, or that failed. Without a current file nothing was asked.
abbrev pub Syncs : {F A D : Type 0} → Option (Growing F A D) → Bool → Option (Growing F A D) → Type 0
Syncs None done file' = (done ≡ false) × (file' ≡ None)
Syncs (Some file) done None = ⊥
Syncs (Some file) done (Some file') = Does (Asks (Sync (place_of file))) (room_of file) file done file'

-- The current file was cut to its end and secured, or that failed. Without a current file there is nothing to do.
abbrev pub Closes : {F A D : Type 0} → Option (Growing F A D) → Bool → Option (Growing F A D) → Type 0
Closes None done file' = (done ≡ true) × (file' ≡ None)
Closes (Some file) done None = ⊥
Closes (Some file) done (Some file') = Does (CutsTo (place_of file) (end_of file)) (room_at (end_of file)) file done file'

-- The current file was closed if there is a folder too. A directory without one was not resumed.
abbrev pub Secures : {F A D : Type 0} → Option (Folder F A D) → Option (Growing F A D) → Bool → Option (Growing F A D) → Type 0
Secures None file done file' = (done ≡ true) × (file' ≡ file)
Secures (Some folder) file done file' = Closes file done file'
