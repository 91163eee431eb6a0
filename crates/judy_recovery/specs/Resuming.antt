-- How a directory is made ready for a writer that goes on where a journal ends.
--     ResumesEnd end result acts acts'    the last segment was gone on with, or there is none and nothing was asked
--     IsFileOf end file                   the file that a writer goes on with
--     is_bare_at end                      there is a first line, and no commit
use Rattle.std.specs.Prelude.{◌≡◌, ◌<◌, Bool, false, List, [], Option, Some, None, Result, Ok, Err, nat_eq}
use Rattle.judy_disk.specs.Acts.{Act}
use Rattle.judy_disk.specs.Growth.{acts_of, place_of, room_of}
use Rattle.judy_disk.specs.Rewriting.{Resumes}
use Rattle.judy_disk.specs.Rooms.{room_at}
use Rattle.judy_disk.specs.declared.faults.DiskFault.{DiskFault}
use Rattle.judy_disk.specs.declared.files.Growing.{Growing}
use Rattle.judy_disk.specs.declared.names.Place.TheVariants as place
use Rattle.judy_journal.specs.Notes.{first_len}
use Rattle.judy_recovery.specs.declared.ends.End.{End}

-- The last segment was written anew, or cut, to exactly the end's size, which is 0 if its first line is not whole. If
-- there is no segment, nothing was asked.
abbrev pub ResumesEnd : {T : Type 0} → Option End → Result T DiskFault → List Act → List Act → Type 0
ResumesEnd None (Ok done) acts acts' = acts' ≡ acts
ResumesEnd None (Err why) acts acts' = ⊥
ResumesEnd (Some end) result acts acts' = Resumes end.segment end.size result acts acts'

-- The file is the last segment. It has as many bytes as the end, and nothing was asked of it yet. There is none if
-- there is no segment, or not even its first line is whole.
abbrev pub IsFileOf : {F A D : Type 0} → Option End → Option (Growing F A D) → Type 0
IsFileOf None file = file ≡ None
IsFileOf (Some end) None = end.size ≡ 0
IsFileOf (Some end) (Some file) = (0 < end.size) × (place_of file ≡ place.Segment end.segment)
    × (room_of file ≡ room_at end.size) × (acts_of file ≡ [])

-- the last segment has its first line, and no commit
abbrev pub is_bare_at : Option End → Bool
is_bare_at None = false
is_bare_at (Some end) = nat_eq end.size (first_len end.segment)
