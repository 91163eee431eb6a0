-- How the directory of a journal is taken for a server.
--     LocksAtLast tries waits ..       a file was locked, at once or once another program had let it go
--     Shares result acts acts'         no file is removed from now on
--     Starts result acts acts'         nobody else takes the directory from now on
--     TakesDirectory result ..         the same, and then the directory was taken
--     HasTaken acts acts'              all of this, in order
use Rattle.std.specs.Prelude.{◌≡◌, ◌⊎◌, ◌++◌, List, [], ◌∷◌, Result, Ok, Err}
use Rattle.judy_disk.specs.Acts.{Act, Ask, IsAt, place_at}
use Rattle.judy_disk.specs.Acts.Act.{Did, Failed, Refused}
use Rattle.judy_disk.specs.Acts.Ask.{Lock, Share, TryLock, TryShare}
use Rattle.judy_disk.specs.Folders.{Opened, Takes, Unopened}
use Rattle.judy_disk.specs.declared.faults.DiskFault.{DiskFault}
use Rattle.judy_disk.specs.declared.faults.DiskFault.TheVariants as fault
use Rattle.judy_disk.specs.declared.names.Place.TheVariants as place

-- A lock was tried. If another program had it, it was waited for.
abbrev pub LocksAtLast : {T : Type 0} → Ask → Ask → Result T DiskFault → List Act → List Act → Type 0
LocksAtLast tries waits (Ok done) acts acts' = (acts' ≡ acts ++ Did tries ∷ []) ⊎ (acts' ≡ (acts ++ Refused tries ∷ []) ++ Did waits ∷ [])
LocksAtLast tries waits (Err why) acts acts' = (IsAt (place_at tries) why × (acts' ≡ acts ++ Failed tries ∷ []))
    ⊎ (IsAt (place_at waits) why × (acts' ≡ (acts ++ Refused tries ∷ []) ++ Failed waits ∷ []))

-- The lock of readers was locked beside others, once no program had it alone.
abbrev pub Shares : {T : Type 0} → Result T DiskFault → List Act → List Act → Type 0
Shares result acts acts' = LocksAtLast (TryShare place.ReadLock) (Share place.ReadLock) result acts acts'

-- the lock of those who take the directory was neither made nor opened
abbrev pub FailsToOpen : {T : Type 0} → Result T DiskFault → List Act → List Act → Type 0
FailsToOpen (Ok done) acts acts' = ⊥
FailsToOpen (Err why) acts acts' = IsAt place.StartLock why × Unopened place.StartLock acts acts'

-- The lock of those who take the directory was made or opened, and locked once no other program had it.
abbrev pub Starts : {T : Type 0} → Result T DiskFault → List Act → List Act → Type 0
Starts result acts acts' = FailsToOpen result acts acts' ⊎ ((opened : List Act) × Opened place.StartLock acts opened
    × LocksAtLast (TryLock place.StartLock) (Lock place.StartLock) result opened acts')

abbrev pub FailsToStart : {T : Type 0} → Result T DiskFault → List Act → List Act → Type 0
FailsToStart (Ok done) acts acts' = ⊥
FailsToStart (Err why) acts acts' = Starts {T = Unit {0}} (Err why) acts acts'

-- Once nobody else took the directory, its own lock was made or opened, and locked unless a server has it.
abbrev pub TakesDirectory : {T : Type 0} → Result T DiskFault → List Act → List Act → Type 0
TakesDirectory result acts acts' = FailsToStart result acts acts' ⊎ ((started : List Act) × Starts {T = Unit {0}} (Ok tt) acts started
    × Takes place.Lock fault.InUse result started acts')

-- The directory was taken: the lock of readers was locked beside others, then that of those who take the directory,
-- and then its own. Nothing else was asked.
abbrev pub HasTaken : List Act → List Act → Type 0
HasTaken acts acts' = (opened : List Act) × (shared : List Act) × Opened place.ReadLock acts opened × Shares {T = Unit {0}} (Ok tt) opened shared
    × TakesDirectory {T = Unit {0}} (Ok tt) shared acts'
