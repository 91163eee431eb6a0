-- What a listing of the directory asks of the system, and what is found by the names that it gives.
--     listed acts names                      a listing was begun, and gave these names
--     ListsAll names acts acts'              it gave these names, and there are no others
--     FindsNames names result acts acts'     the numbers in all names of the directory
--     Finds result acts acts'                the files, whatever the manifest says
--     Scans, ScansNew                        the files as the manifest wants them, or those of a new journal
use Rattle.std.specs.Prelude.{◌≡◌, ◌⊎◌, ◌++◌, ℕ, false, List, [], ◌∷◌, map, flat_map, Option, Some, None, Result, Ok, Err}
use Rattle.std.specs.List.{All}
use Rattle.std.specs.Fs.{dir_entry_name}
use Rattle.std.specs.declared.fs.dir.DirEntry.{DirEntry}
use Rattle.judy_disk.specs.Acts.{Act, IsAt}
use Rattle.judy_disk.specs.Acts.Act.{AllListed, Did, Failed, Listed}
use Rattle.judy_disk.specs.Acts.Ask.{ListNames, NextName}
use Rattle.judy_disk.specs.Folders.{FindsManifest}
use Rattle.judy_disk.specs.Names.{named_of}
use Rattle.judy_disk.specs.Scans.{ArrangesBy, IsFound, IsOther, IsOutOfMemory, IsUnfound, is_other, segment_in, snapshot_in, torn_in}
use Rattle.judy_disk.specs.declared.faults.DiskFault.{DiskFault}
use Rattle.judy_disk.specs.declared.faults.DiskFault.TheVariants as fault
use Rattle.judy_disk.specs.declared.manifest.Manifest.{Manifest}
use Rattle.judy_disk.specs.declared.names.Place.TheVariants as place
use Rattle.judy_disk.specs.declared.scan.Found.{Found}
use Rattle.judy_disk.specs.declared.scan.Names.{Names}

-- ---- the numbers in the names of a listing

abbrev pub segments_in : List (List ℕ) → List ℕ
segments_in names = flat_map (λ name. segment_in (named_of name)) names

abbrev pub snapshots_in : List (List ℕ) → List ℕ
snapshots_in names = flat_map (λ name. snapshot_in (named_of name)) names

abbrev pub torn_among : List (List ℕ) → List ℕ
torn_among names = flat_map (λ name. torn_in (named_of name)) names

-- a file of a journal may have each of these names
abbrev pub AreKnown : List (List ℕ) → Type 0
AreKnown names = All (λ name. is_other (named_of name) ≡ false) names

-- the numbers in these names, each of which a file of a journal may have
pub record HasNumbers (names : List (List ℕ)) (found : Names) : Type 0 where
  pub known : AreKnown names
  pub segments : found.segments.items ≡ segments_in names
  pub snapshots : found.snapshots.items ≡ snapshots_in names
  pub torn : found.torn.items ≡ torn_among names

-- ---- what is asked

-- The next name of a listing was asked for, and nothing else: this is it, or there is no other.
abbrev pub GivesName : {R A F D : Type 0} → Result (Option (DirEntry R A F D)) DiskFault → List Act → List Act → Type 0
GivesName (Ok (Some entry)) acts acts' = acts' ≡ acts ++ Listed (dir_entry_name entry) ∷ []
GivesName (Ok None) acts acts' = acts' ≡ acts ++ AllListed ∷ []
GivesName (Err why) acts acts' = IsAt place.Folder why × (acts' ≡ acts ++ Failed NextName ∷ [])

-- a listing was begun, and gave these names
abbrev pub listed : List Act → List (List ℕ) → List Act
listed acts names = (acts ++ Did ListNames ∷ []) ++ map Listed names

-- a listing gave these names, and there are no others
abbrev pub ListsAll : List (List ℕ) → List Act → List Act → Type 0
ListsAll names acts acts' = acts' ≡ listed acts names ++ AllListed ∷ []

-- After these names the next was not given; or it is one that no file of a journal has, or there was no memory for it.
abbrev pub FailsAfter : List (List ℕ) → DiskFault → List Act → List Act → Type 0
FailsAfter names why acts acts' = (IsAt place.Folder why × (acts' ≡ listed acts names ++ Failed NextName ∷ []))
    ⊎ ((name : List ℕ) × (IsOutOfMemory why ⊎ IsOther name why) × (acts' ≡ listed acts (names ++ name ∷ [])))

-- no listing was begun, or it failed after some names
abbrev pub FailsToList : DiskFault → List Act → List Act → Type 0
FailsToList why acts acts' = (IsAt place.Folder why × (acts' ≡ acts ++ Failed ListNames ∷ []))
    ⊎ ((names : List (List ℕ)) × AreKnown names × FailsAfter names why acts acts')

-- All names of the directory were listed, and nothing else was asked. These are the numbers in them.
abbrev pub FindsNames : Result Names DiskFault → List Act → List Act → Type 0
FindsNames (Ok found) acts acts' = (names : List (List ℕ)) × ListsAll names acts acts' × HasNumbers names found
FindsNames (Err why) acts acts' = FailsToList why acts acts'

-- ---- what is found

-- All names of the directory were listed, and nothing else was asked. The files are those of the numbers in the names.
abbrev pub Finds : Result Found DiskFault → List Act → List Act → Type 0
Finds (Ok f) acts acts' = (names : List (List ℕ)) × ListsAll names acts acts' × AreKnown names
    × IsFound (segments_in names) (snapshots_in names) (torn_among names) f
Finds (Err why) acts acts' = FailsToList why acts acts'
    ⊎ ((names : List (List ℕ)) × ListsAll names acts acts' × AreKnown names × IsUnfound (segments_in names) (snapshots_in names) why)

abbrev pub FailsByNames : Result Found DiskFault → List Act → List Act → Type 0
FailsByNames (Ok f) acts acts' = ⊥
FailsByNames (Err why) acts acts' = FailsToList why acts acts'

-- The same. The files fit this manifest.
abbrev pub FindsBy : Manifest → Result Found DiskFault → List Act → List Act → Type 0
FindsBy m result acts acts' = FailsByNames result acts acts'
    ⊎ ((names : List (List ℕ)) × ListsAll names acts acts' × AreKnown names
    × ArrangesBy m (segments_in names) (snapshots_in names) (torn_among names) result)

-- it was not found: there is none, or it was not read
abbrev pub LacksManifest : Result Found DiskFault → List Act → List Act → Type 0
LacksManifest (Ok f) acts acts' = ⊥
LacksManifest (Err why) acts acts' = FindsManifest (Err why) acts acts' ⊎ ((why ≡ fault.NoManifest) × FindsManifest (Ok None) acts acts')

-- The manifest was read, and then all names of the directory were listed. Nothing else was asked. The files fit the
-- manifest.
abbrev pub Scans : Result Found DiskFault → List Act → List Act → Type 0
Scans result acts acts' = LacksManifest result acts acts'
    ⊎ ((m : Manifest) × (read : List Act) × FindsManifest (Ok (Some m)) acts read × FindsBy m result read acts')

-- a manifest is there, or it was not read
abbrev pub HasManifest : Result Found DiskFault → List Act → List Act → Type 0
HasManifest (Ok f) acts acts' = ⊥
HasManifest (Err why) acts acts' = ((why ≡ fault.HasManifest) × ((m : Manifest) × FindsManifest (Ok (Some m)) acts acts'))
    ⊎ ((why ≡ fault.HasManifest) × FindsManifest (Err fault.Manifest) acts acts')
    ⊎ FindsManifest (Err why) acts acts'

-- The manifest was read: there is none. Then all names of the directory were listed, and nothing else was asked.
abbrev pub ScansNew : Result Found DiskFault → List Act → List Act → Type 0
ScansNew result acts acts' = HasManifest result acts acts'
    ⊎ ((read : List Act) × FindsManifest (Ok None) acts read × Finds result read acts')
