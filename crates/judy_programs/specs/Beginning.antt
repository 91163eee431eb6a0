-- How a segment is begun.
--     ClosesBefore file result file'       the file before, if there is one, was cut to its end and secured
--     IsClosedIf file                      the last that was asked of it is that it is secured
--     BeginsFile made n result ..          a file was made, or the one that was made ahead got its name
--     BeginsClosed, BeginsAt               the same behind a file that was closed; then the manifest was raised
--     IsAtSegment n file                   the file is that of this segment
--     IsSameFile file file'                it has the same name
use Rattle.std.specs.Prelude.{◌≡◌, ◌⊎◌, ◌++◌, ℕ, List, [], ◌∷◌, Option, Some, None, Result, Ok, Err}
use Rattle.judy_disk.specs.Acts.{Act, CutsTo}
use Rattle.judy_disk.specs.Acts.Act.{Did}
use Rattle.judy_disk.specs.Acts.Ask.{Secure}
use Rattle.judy_disk.specs.Folders.{Begins, BeginsMade, RaisesManifest}
use Rattle.judy_disk.specs.Growth.{acts_of, end_of, place_of, room_of}
use Rattle.judy_disk.specs.Rooms.{room_at}
use Rattle.judy_disk.specs.declared.faults.DiskFault.{DiskFault}
use Rattle.judy_disk.specs.declared.files.Growing.{Growing}
use Rattle.judy_disk.specs.declared.manifest.Manifest.{Manifest}
use Rattle.judy_disk.specs.declared.names.Place.TheVariants as place

-- ---- the file before

-- The file was cut to its end and secured, or that failed. Without a file there is nothing to do.
abbrev pub ClosesBefore : {F A D T : Type 0} → Option (Growing F A D) → Result T DiskFault → Option (Growing F A D) → Type 0
ClosesBefore None (Ok done) file' = file' ≡ None
ClosesBefore None (Err why) file' = ⊥
ClosesBefore (Some file) result None = ⊥
ClosesBefore (Some file) result (Some file') = (place_of file' ≡ place_of file)
    × CutsTo (place_of file) (end_of file) result (acts_of file) (acts_of file')

-- the last that was asked of the file is that it is secured whole
abbrev pub IsClosedIf : {F A D : Type 0} → Option (Growing F A D) → Type 0
IsClosedIf None = Unit {0}
IsClosedIf (Some file) = (acts : List Act) × (acts_of file ≡ acts ++ Did (Secure (place_of file)) ∷ [])

-- ---- the next one

-- A file was made, or the one that was made ahead got its name.
abbrev pub BeginsFile : {F A D T : Type 0} → Option (Growing F A D) → ℕ → Result T DiskFault → List Act → List Act → Type 0
BeginsFile None n result acts acts' = Begins n result acts acts'
BeginsFile (Some made) n result acts acts' = BeginsMade (place_of made) n result acts acts'

-- it has this name; a new one has no byte, and the other one is as it was
abbrev pub IsBegun : {F A D : Type 0} → Option (Growing F A D) → ℕ → Growing F A D → Type 0
IsBegun None n file = (place_of file ≡ place.Segment n) × (room_of file ≡ room_at 0) × (acts_of file ≡ [])
IsBegun (Some made) n file = (place_of file ≡ place.Segment n) × (room_of file ≡ room_of made) × (acts_of file ≡ acts_of made)

abbrev pub IsBegunAs : {F A D : Type 0} → Option (Growing F A D) → ℕ → Option (Growing F A D) → Type 0
IsBegunAs made n None = ⊥
IsBegunAs made n (Some file) = IsBegun made n file

-- the manifest of a journal that has this segment last
abbrev pub manifest_to : ℕ → Manifest
manifest_to n = record { snapshot = 0; last = n }

abbrev pub FailsToBegin : {F A D T : Type 0} → Option (Growing F A D) → ℕ → Option (Growing F A D) → Result T DiskFault → Option (Growing F A D)
    → List Act → List Act → Type 0
FailsToBegin made n file (Ok done) file' acts acts' = ⊥
FailsToBegin made n file (Err why) file' acts acts' = BeginsFile {T = Unit {0}} made n (Err why) acts acts' × (file' ≡ file)

-- The segment was begun, and took the place of the file before. Then the manifest was raised to it. Nothing else was
-- asked.
abbrev pub BeginsClosed : {F A D T : Type 0} → Option (Growing F A D) → ℕ → Option (Growing F A D) → Result T DiskFault → Option (Growing F A D)
    → List Act → List Act → Type 0
BeginsClosed made n file result file' acts acts' = FailsToBegin made n file result file' acts acts'
    ⊎ ((begun : List Act) × BeginsFile {T = Unit {0}} made n (Ok tt) acts begun × IsBegunAs made n file'
    × RaisesManifest (manifest_to n) result begun acts')

abbrev pub FailsToClose : {F A D T : Type 0} → Option (Growing F A D) → Result T DiskFault → Option (Growing F A D) → List Act → List Act → Type 0
FailsToClose file (Ok done) file' acts acts' = ⊥
FailsToClose file (Err why) file' acts acts' = ClosesBefore {T = Unit {0}} file (Err why) file' × (acts' ≡ acts)

-- The file before was closed. Only then the segment was begun, and the manifest was raised.
abbrev pub BeginsAt : {F A D T : Type 0} → Option (Growing F A D) → ℕ → Option (Growing F A D) → Result T DiskFault → Option (Growing F A D)
    → List Act → List Act → Type 0
BeginsAt {F} {A} {D} made n file result file' acts acts' = FailsToClose file result file' acts acts'
    ⊎ ((closed : Option (Growing F A D)) × ClosesBefore {T = Unit {0}} file (Ok tt) closed × BeginsClosed made n closed result file' acts acts')

-- ---- the current file

-- it is that of this segment
abbrev pub IsAtSegment : {F A D : Type 0} → ℕ → Option (Growing F A D) → Type 0
IsAtSegment n None = ⊥
IsAtSegment n (Some file) = place_of file ≡ place.Segment n

-- it has the same name
abbrev pub IsSameFile : {F A D : Type 0} → Option (Growing F A D) → Option (Growing F A D) → Type 0
IsSameFile None file' = file' ≡ None
IsSameFile (Some file) None = ⊥
IsSameFile (Some file) (Some file') = place_of file' ≡ place_of file
