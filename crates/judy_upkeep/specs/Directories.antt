-- What the steps of a compaction ask of the files of a directory.
--     Secures file result file'         the new snapshot was secured; if there is none, that fails
--     folder_secured                    which files the directory has is secured
--     named_as number                   it gets the name of the one with this number
--     to_snapshot number                the manifest names the snapshot with this number
--     HasRemovedLast place acts         the last that was asked is that this file is removed, and it was
use Rattle.std.specs.Prelude.{◌≡◌, ◌++◌, ℕ, List, [], ◌∷◌, IsErr, Option, Some, None, Result}
use Rattle.judy_disk.specs.Acts.{Act, Ask, Asks}
use Rattle.judy_disk.specs.Growth.{acts_of, file_of, place_of}
use Rattle.judy_disk.specs.declared.faults.DiskFault.{DiskFault}
use Rattle.judy_disk.specs.declared.files.NewSnapshot.{NewSnapshot}
use Rattle.judy_disk.specs.declared.manifest.Manifest.{Manifest}
use Rattle.judy_disk.specs.declared.names.Place.{Place}
use Rattle.judy_disk.specs.declared.names.Place.TheVariants as place

-- The file of the new snapshot was secured, and nothing else was asked about it. If there is none, that fails.
abbrev pub Secures : {F A D T : Type 0} → Option (NewSnapshot F A D) → Result T DiskFault → Option (NewSnapshot F A D) → Type 0
Secures None result file' = IsErr result
Secures (Some file) result None = ⊥
Secures (Some file) result (Some file') = Asks (Ask.Secure (place_of (file_of file))) result (acts_of (file_of file)) (acts_of (file_of file'))

-- the new snapshot gets the name of the one with this number
abbrev pub named_as : ℕ → Ask
named_as number = Ask.Rename place.NewSnapshot (place.Snapshot number)

-- which files the directory has is secured
abbrev pub folder_secured : Ask
folder_secured = Ask.Secure place.Folder

-- the manifest names the snapshot with this number, and no segment
abbrev pub to_snapshot : ℕ → Manifest
to_snapshot number = record { snapshot = number; last = 0 }

-- The last that was asked is that this file is removed, and it was.
abbrev pub HasRemovedLast : Place → List Act → Type 0
HasRemovedLast p acts = (before : List Act) × (acts ≡ before ++ Act.Did (Ask.Remove p) ∷ [])
