-- What the calls on a directory ask of the system.
--     asked_of folder                   what was asked about its files, but for those that are written
--     Opened p acts acts'               a file was made, or opened since it was there
--     MakesAnew p result acts acts'     a file was removed and made
--     Begins, BeginsMade                a segment was begun
--     PutsManifest m result acts acts'  a manifest was put in the place of the one before
--     RaisesManifest to result ..       the same, unless it names these files already
--     LocksIfFree, LocksIfThere, LocksOpened, Takes    a file was locked
use Rattle.std.specs.Prelude.{◌≡◌, ◌⊎◌, ◌++◌, ◌<◌, ℕ, Bool, List, [], ◌∷◌, Option, Some, None, Result, Ok, Err, max}
use Rattle.judy_disk.specs.Acts.{Act, Ask, Asks, AsksAll, ChecksEmpty, FailsIn, IsAbsent, IsAt, done_all, size_by}
use Rattle.judy_disk.specs.Acts.Act.{Absent, Did, Failed, Gave, Measured, Refused}
use Rattle.judy_disk.specs.Acts.Ask.{Lock, Make, Open, Read, Remove, Rename, Secure, TryLock, Write}
use Rattle.judy_disk.specs.Manifests.{text_of}
use Rattle.judy_disk.specs.Notes.{act_if}
use Rattle.judy_disk.specs.declared.faults.DiskFault.{DiskFault}
use Rattle.judy_disk.specs.declared.faults.DiskFault.TheVariants as fault
use Rattle.judy_disk.specs.declared.folder.Folder.{Folder}
use Rattle.judy_disk.specs.declared.manifest.Manifest.{Manifest}
use Rattle.judy_disk.specs.declared.names.Place.{Place}
use Rattle.judy_disk.specs.declared.names.Place.TheVariants as place

abbrev pub asked_of : {F A D : Type 0} → Folder F A D → List Act
asked_of folder = folder.log.acts

-- ---- a file is made or opened

-- a file was made; or one is there, so that none was made, and it was opened
abbrev pub Opened : Place → List Act → List Act → Type 0
Opened p acts acts' = (acts' ≡ acts ++ Did (Make p) ∷ []) ⊎ (acts' ≡ (acts ++ Failed (Make p) ∷ []) ++ Did (Open p) ∷ [])

-- it was neither made nor opened
abbrev pub Unopened : Place → List Act → List Act → Type 0
Unopened p acts acts' = (acts' ≡ acts ++ Failed (Make p) ∷ []) ⊎ (acts' ≡ (acts ++ Failed (Make p) ∷ []) ++ Failed (Open p) ∷ [])

abbrev pub MakesOrOpens : {T : Type 0} → Place → Result T DiskFault → List Act → List Act → Type 0
MakesOrOpens p (Ok file) acts acts' = Opened p acts acts'
MakesOrOpens p (Err why) acts acts' = IsAt p why × Unopened p acts acts'

-- A file of this name was removed, if it was there, and then one was made. Nothing else was asked.
abbrev pub MakesAnew : {T : Type 0} → Place → Result T DiskFault → List Act → List Act → Type 0
MakesAnew p result acts acts' = (removed : Bool) × Asks (Make p) result (acts ++ act_if removed (Remove p) ∷ []) acts'

-- its removal was asked, and nothing else
abbrev pub Removes : Place → List Act → List Act → Type 0
Removes p acts acts' = (acts' ≡ acts ++ Did (Remove p) ∷ []) ⊎ (acts' ≡ acts ++ Failed (Remove p) ∷ [])

-- ---- a segment is begun

-- the segment that was opened was not measured, or has a byte, or the directory was not secured
abbrev pub Unbegun : ℕ → DiskFault → List Act → List Act → Type 0
Unbegun n why acts acts' = ChecksEmpty {T = Unit {0}} (place.Segment n) (Err why) acts acts'
    ⊎ (IsAt place.Folder why × (acts' ≡ (acts ++ Measured (place.Segment n) 0 ∷ []) ++ Failed (Secure place.Folder) ∷ []))

-- A segment was made, or opened since it was there. It has no byte. Which files the directory has was secured.
-- Nothing else was asked.
abbrev pub Begins : {T : Type 0} → ℕ → Result T DiskFault → List Act → List Act → Type 0
Begins n (Ok file) acts acts' = (opened : List Act) × Opened (place.Segment n) acts opened
    × (acts' ≡ (opened ++ Measured (place.Segment n) 0 ∷ []) ++ Did (Secure place.Folder) ∷ [])
Begins n (Err why) acts acts' = (IsAt (place.Segment n) why × Unopened (place.Segment n) acts acts')
    ⊎ ((opened : List Act) × Opened (place.Segment n) acts opened × Unbegun n why opened acts')

-- no file, or one of this size without a byte
abbrev pub IsVacant : Result ℕ DiskFault → Type 0
IsVacant (Ok n) = n ≡ 0
IsVacant (Err why) = IsAbsent why

-- a file that has a byte, or the fault of a file that was not measured
abbrev pub IsTaken : Result ℕ DiskFault → DiskFault → Type 0
IsTaken (Ok n) why = 0 < n
IsTaken (Err found) why = why ≡ found

abbrev pub VacantBy : {T : Type 0} → Result ℕ DiskFault → Result T DiskFault → Type 0
VacantBy size (Ok done) = IsVacant size
VacantBy size (Err why) = IsTaken size why

-- A file was measured, and nothing else was asked. One that has a byte is at fault.
pub record ChecksVacant {T : Type 0} (p : Place) (result : Result T DiskFault) (acts acts' : List Act) : Type 0 where
  pub size : Result ℕ DiskFault
  pub measured : acts' ≡ acts ++ size_by p size ∷ []
  pub by : VacantBy size result

abbrev pub IsTakenBy : {T : Type 0} → Result ℕ DiskFault → Result T DiskFault → Type 0
IsTakenBy size (Ok done) = ⊥
IsTakenBy size (Err why) = IsTaken size why

-- A segment has no byte, or is not there. A file that was made ahead got its name, and which files the directory has
-- was secured. Nothing else was asked.
pub record BeginsMade {T : Type 0} (p : Place) (n : ℕ) (result : Result T DiskFault) (acts acts' : List Act) : Type 0 where
  pub size : Result ℕ DiskFault
  pub rest : (IsVacant size × AsksAll (Rename p (place.Segment n) ∷ Secure place.Folder ∷ []) result (acts ++ size_by (place.Segment n) size ∷ []) acts')
      ⊎ (IsTakenBy size result × (acts' ≡ acts ++ size_by (place.Segment n) size ∷ []))

-- ---- the manifest

-- The manifest was read, and nothing else was asked. What is found is what its text says. None is found only if the
-- system said that there is none.
abbrev pub FindsManifest : Result (Option Manifest) DiskFault → List Act → List Act → Type 0
FindsManifest (Ok (Some m)) acts acts' = acts' ≡ acts ++ Gave place.Manifest (text_of m) ∷ []
FindsManifest (Ok None) acts acts' = acts' ≡ acts ++ Absent (Read place.Manifest) ∷ []
FindsManifest (Err why) acts acts' = (acts' ≡ acts ++ Failed (Read place.Manifest) ∷ [])
    ⊎ ((text : List ℕ) × (why ≡ fault.Manifest) × (acts' ≡ acts ++ Gave place.Manifest text ∷ []))

-- how a manifest is written under another name
abbrev pub writes_of : Manifest → List Ask
writes_of m = Make place.NewManifest ∷ Write place.NewManifest 0 (text_of m) ∷ Secure place.NewManifest ∷ []

-- how it gets its own
abbrev pub names_of : List Ask
names_of = Rename place.NewManifest place.Manifest ∷ Secure place.Folder ∷ []

-- A manifest was written under another name and secured, once a file of this name was removed.
abbrev pub WritesManifest : {T : Type 0} → Manifest → Result T DiskFault → List Act → List Act → Type 0
WritesManifest m result acts acts' = (removed : Bool) × AsksAll (writes_of m) result (acts ++ act_if removed (Remove place.NewManifest) ∷ []) acts'

abbrev pub PutsFrom : {T : Type 0} → Manifest → Result T DiskFault → List Act → List Act → Type 0
PutsFrom m (Ok done) acts acts' = acts' ≡ done_all (done_all acts (writes_of m)) names_of
PutsFrom m (Err why) acts acts' = ((written : List Act) × FailsIn (writes_of m) why acts written × Removes place.NewManifest written acts')
    ⊎ FailsIn names_of why (done_all acts (writes_of m)) acts'

-- A manifest was written under another name and secured; then it got its name, and which files the directory has was
-- secured. If it was not written, its file was removed, and if it did not get its name, nothing else was asked.
abbrev pub PutsManifest : {T : Type 0} → Manifest → Result T DiskFault → List Act → List Act → Type 0
PutsManifest m result acts acts' = (removed : Bool) × PutsFrom m result (acts ++ act_if removed (Remove place.NewManifest) ∷ []) acts'

-- a file was not opened, or its lock was asked for and failed
abbrev pub Unlocked : {T : Type 0} → Place → Result T DiskFault → List Act → List Act → Type 0
Unlocked p (Ok done) acts acts' = ⊥
Unlocked p (Err why) acts acts' = IsAt p why × (Unopened p acts acts'
    ⊎ ((opened : List Act) × Opened p acts opened × (acts' ≡ opened ++ Failed (Lock p) ∷ [])))

-- the manifest of the files of both
abbrev pub raised_by : Manifest → Manifest → Manifest
raised_by m to = record { snapshot = max m.snapshot to.snapshot; last = max m.last to.last }

-- it was done
abbrev pub IsDone : {T : Type 0} → Result T DiskFault → Type 0
IsDone (Ok done) = Unit {0}
IsDone (Err why) = ⊥

-- A manifest that was found names these files already, or one that does was put in its place.
abbrev pub RaisesFound : {T : Type 0} → Option Manifest → Manifest → Result T DiskFault → List Act → List Act → Type 0
RaisesFound None to result acts acts' = PutsManifest to result acts acts'
RaisesFound (Some m) to result acts acts' = (IsDone result × (raised_by m to ≡ m) × (acts' ≡ acts)) ⊎ PutsManifest (raised_by m to) result acts acts'

abbrev pub FailsToFind : {T : Type 0} → Result T DiskFault → List Act → List Act → Type 0
FailsToFind (Ok done) acts acts' = ⊥
FailsToFind (Err why) acts acts' = FindsManifest (Err why) acts acts'

-- the manifest was read, and raised
abbrev pub RaisesRead : {T : Type 0} → Manifest → Result T DiskFault → List Act → List Act → Type 0
RaisesRead to result acts acts' = (FailsToFind result acts acts')
    ⊎ ((found : Option Manifest) × (read : List Act) × FindsManifest (Ok found) acts read × RaisesFound found to result read acts')

-- Its lock was opened and locked. Then the manifest was read, and raised unless it names these files already.
abbrev pub RaisesManifest : {T : Type 0} → Manifest → Result T DiskFault → List Act → List Act → Type 0
RaisesManifest to result acts acts' = Unlocked place.ManifestLock result acts acts'
    ⊎ ((opened : List Act) × Opened place.ManifestLock acts opened × RaisesRead to result (opened ++ Did (Lock place.ManifestLock) ∷ []) acts')

-- ---- locks

-- A file was made or opened, and locked once no other program had locked it.
abbrev pub LocksOpened : {T : Type 0} → Place → Result T DiskFault → List Act → List Act → Type 0
LocksOpened p (Ok file) acts acts' = (opened : List Act) × Opened p acts opened × (acts' ≡ opened ++ Did (Lock p) ∷ [])
LocksOpened p (Err why) acts acts' = Unlocked {T = Unit {0}} p (Err why) acts acts'

-- a file was not opened, or to lock it failed
abbrev pub Untried : Place → DiskFault → List Act → List Act → Type 0
Untried p why acts acts' = IsAt p why × (Unopened p acts acts'
    ⊎ ((opened : List Act) × Opened p acts opened × (acts' ≡ opened ++ Failed (TryLock p) ∷ [])))

-- a file was made or opened, and to lock it was tried, with this answer
abbrev pub Tried : Place → (Ask → Act) → List Act → List Act → Type 0
Tried p answer acts acts' = (opened : List Act) × Opened p acts opened × (acts' ≡ opened ++ answer (TryLock p) ∷ [])

-- A file was made or opened, and locked unless another program had locked it.
abbrev pub LocksIfFree : {T : Type 0} → Place → Result (Option T) DiskFault → List Act → List Act → Type 0
LocksIfFree p (Ok (Some file)) acts acts' = Tried p Did acts acts'
LocksIfFree p (Ok None) acts acts' = Tried p Refused acts acts'
LocksIfFree p (Err why) acts acts' = Untried p why acts acts'

-- The same. If another program had locked it, this is the fault.
abbrev pub Takes : {T : Type 0} → Place → DiskFault → Result T DiskFault → List Act → List Act → Type 0
Takes p taken (Ok file) acts acts' = Tried p Did acts acts'
Takes p taken (Err why) acts acts' = ((why ≡ taken) × Tried p Refused acts acts') ⊎ Untried p why acts acts'

-- A file that is there was locked, unless another program had locked it. Nothing was asked of one that is not there,
-- or that cannot be opened.
abbrev pub LocksIfThere : {T : Type 0} → Place → Result (Option T) DiskFault → List Act → List Act → Type 0
LocksIfThere p (Ok (Some file)) acts acts' = acts' ≡ acts ++ Did (TryLock p) ∷ []
LocksIfThere p (Ok None) acts acts' = acts' ≡ acts
LocksIfThere p (Err why) acts acts' = ((why ≡ fault.InUse) × (acts' ≡ acts ++ Refused (TryLock p) ∷ []))
    ⊎ (IsAt p why × ((acts' ≡ acts) ⊎ (acts' ≡ acts ++ Failed (TryLock p) ∷ [])))
