-- What was asked of the system, and its answers, each with the file that it is about.
--     Ask                               what was asked
--     Act                               one answer of the system
--     Asks ask result acts acts'        this was asked, and nothing else
--     AsksAll asks result acts acts'    these were asked, one after another, up to the first that failed
--     Measures place result acts acts'  the size of a file was asked for
use Rattle.std.specs.Prelude.{◌≡◌, ◌⊎◌, ◌++◌, ◌<◌, ◌≤◌, ℕ, Bool, true, false, List, [], ◌∷◌, length, take, nat_lt, if◌then◌else◌, Result, Ok, Err}
use Rattle.std.specs.IoError.{error_kind}
use Rattle.std.specs.declared.io.ErrorKind.TheVariants as kind
use Rattle.judy_disk.specs.declared.faults.DiskFault.{DiskFault}
use Rattle.judy_disk.specs.declared.faults.DiskFault.TheVariants as fault
use Rattle.judy_disk.specs.declared.names.Place.{Place}
use Rattle.judy_disk.specs.declared.names.Place.TheVariants as place

-- what was asked
pub data Ask : Type 0 where
  -- a file is made, which is not there yet
  Make : Place → Ask
  -- a file that is there is opened for writing
  Open : Place → Ask
  -- how many bytes a file has
  Measure : Place → Ask
  -- all of these bytes are written to a file, from this place in it on
  Write : Place → ℕ → List ℕ → Ask
  -- this number of zeros is written to a file, from this place in it on
  Fill : Place → ℕ → ℕ → Ask
  -- a file is cut, or filled with zeros, so that it has this number of bytes
  Cut : Place → ℕ → Ask
  -- the bytes of a file are secured
  Sync : Place → Ask
  -- a file is secured whole; of the directory, which files it has
  Secure : Place → Ask
  -- a file gets another name, and takes it from the file that has it now
  Rename : Place → Place → Ask
  -- a file is removed
  Remove : Place → Ask
  -- a file is read whole
  Read : Place → Ask
  -- a file that is there is opened for reading
  OpenToRead : Place → Ask
  -- bytes of a file are read, from this place in it on, and this number of them
  ReadAt : Place → ℕ → ℕ → Ask
  -- a listing of the directory is begun
  ListNames : Ask
  -- the next name of a listing
  NextName : Ask
  -- a file is locked, unless another program has locked it
  TryLock : Place → Ask
  -- a file is locked, once no other program has locked it
  Lock : Place → Ask
  -- a file is locked beside others, unless a program has locked it alone
  TryShare : Place → Ask
  -- a file is locked beside others, once no program has locked it alone
  Share : Place → Ask

-- an answer of the system
pub data Act : Type 0 where
  -- it was done
  Did : Ask → Act
  -- it was not done: the system refused it, or there was no memory for the path
  Failed : Ask → Act
  -- another program has the lock
  Refused : Ask → Act
  -- the file has this number of bytes
  Measured : Place → ℕ → Act
  -- it was not done, since the file is not there
  Absent : Ask → Act
  -- the file has these bytes
  Gave : Place → List ℕ → Act
  -- the file has these bytes, from this place in it on
  GaveAt : Place → ℕ → List ℕ → Act
  -- the directory has a file of this name
  Listed : List ℕ → Act
  -- the listing has no other names
  AllListed : Act

-- the file that is at fault if it fails
abbrev pub place_at : Ask → Place
place_at (Make p) = p
place_at (Open p) = p
place_at (Measure p) = p
place_at (Write p at bytes) = p
place_at (Fill p at n) = p
place_at (Cut p n) = p
place_at (Sync p) = p
place_at (Secure p) = p
place_at (Rename p q) = q
place_at (Remove p) = p
place_at (Read p) = p
place_at (OpenToRead p) = p
place_at (ReadAt p at n) = p
place_at ListNames = place.Folder
place_at NextName = place.Folder
place_at (TryLock p) = p
place_at (Lock p) = p
place_at (TryShare p) = p
place_at (Share p) = p

-- the fault is what the system said of this file
abbrev pub IsAt : Place → DiskFault → Type 0
IsAt p (fault.System at reason) = at ≡ p
IsAt p other = ⊥

-- the fault is that the disk has no room
abbrev pub IsFull : DiskFault → Type 0
IsFull (fault.System at reason) = (error_kind reason ≡ kind.StorageFull) ⊎ (error_kind reason ≡ kind.QuotaExceeded)
IsFull other = ⊥

-- the fault is that a file is not there
abbrev pub IsAbsent : DiskFault → Type 0
IsAbsent (fault.System at reason) = error_kind reason ≡ kind.NotFound
IsAbsent other = ⊥

-- ---- what a call has asked

-- the answer to one ask, by its result
abbrev pub act_by : {T E : Type 0} → Ask → Result T E → Act
act_by ask (Ok done) = Did ask
act_by ask (Err why) = Failed ask

-- A file's fault, if there is one, is one of this file.
abbrev pub IsToldAt : {T : Type 0} → Place → Result T DiskFault → Type 0
IsToldAt p (Ok done) = Unit {0}
IsToldAt p (Err why) = IsAt p why

-- it failed, with a fault of this file
abbrev pub FailsAt : {T : Type 0} → Place → Result T DiskFault → Type 0
FailsAt p (Ok done) = ⊥
FailsAt p (Err why) = IsAt p why

-- what was done to a file, or the fault that the system's refusal is
abbrev pub IsToldBy : {T E : Type 0} → Place → Result T E → Result T DiskFault → Type 0
IsToldBy p (Ok done) result = result ≡ Ok done
IsToldBy p (Err reason) result = FailsAt p result

-- This was asked, and nothing else. If it failed, the fault is of its file.
pub record Asks {T : Type 0} (ask : Ask) (result : Result T DiskFault) (acts acts' : List Act) : Type 0 where
  pub asked : acts' ≡ acts ++ act_by ask result ∷ []
  pub told : IsToldAt (place_at ask) result

-- these were asked, and all were done
abbrev pub done_all : List Act → List Ask → List Act
done_all acts [] = acts
done_all acts (ask ∷ asks) = done_all (acts ++ Did ask ∷ []) asks

-- the last that was asked failed, and this is its fault; all before it were done
abbrev pub FailsIn : List Ask → DiskFault → List Act → List Act → Type 0
FailsIn [] why acts acts' = ⊥
FailsIn (ask ∷ asks) why acts acts' = ((acts' ≡ acts ++ Failed ask ∷ []) × IsAt (place_at ask) why)
    ⊎ FailsIn asks why (acts ++ Did ask ∷ []) acts'

-- These were asked, one after another, and nothing else. After the first that failed none was asked, and the fault
-- is of its file.
abbrev pub AsksAll : {T : Type 0} → List Ask → Result T DiskFault → List Act → List Act → Type 0
AsksAll asks (Ok done) acts acts' = acts' ≡ done_all acts asks
AsksAll asks (Err why) acts acts' = FailsIn asks why acts acts'

-- the answer to how many bytes a file has
abbrev pub size_by : {E : Type 0} → Place → Result ℕ E → Act
size_by p (Ok n) = Measured p n
size_by p (Err why) = Failed (Measure p)

-- the size of a file was asked for, and nothing else
pub record Measures (p : Place) (result : Result ℕ DiskFault) (acts acts' : List Act) : Type 0 where
  pub asked : acts' ≡ acts ++ size_by p result ∷ []
  pub told : IsToldAt p result

-- the answer to a lock that is tried
abbrev pub lock_by : {E : Type 0} → Ask → Result Bool E → Act
lock_by ask (Ok true) = Did ask
lock_by ask (Ok false) = Refused ask
lock_by ask (Err why) = Failed ask

-- This lock was tried, and nothing else. It is had only if the system gave it.
pub record TriesLock (ask : Ask) (result : Result Bool DiskFault) (acts acts' : List Act) : Type 0 where
  pub asked : acts' ≡ acts ++ lock_by ask result ∷ []
  pub told : IsToldAt (place_at ask) result

-- The manifest's file was read, and nothing else. Its bytes are the first of this room.
abbrev pub GivesManifest : Result ℕ DiskFault → List ℕ → List Act → List Act → Type 0
GivesManifest (Ok n) room acts acts' = (n ≤ length room) × (acts' ≡ acts ++ Gave place.Manifest (take n room) ∷ [])
GivesManifest (Err why) room acts acts' = (IsAbsent why × (acts' ≡ acts ++ Absent (Read place.Manifest) ∷ []))
    ⊎ ((IsAbsent why → ⊥) × (acts' ≡ acts ++ Failed (Read place.Manifest) ∷ []))

-- Bytes of a file were read, from this place on, and nothing else was asked.
abbrev pub GivesAt : {T : Type 0} → Place → ℕ → Result T DiskFault → List ℕ → List Act → List Act → Type 0
GivesAt p at (Ok done) bytes acts acts' = acts' ≡ acts ++ GaveAt p at bytes ∷ []
GivesAt p at (Err why) bytes acts acts' = IsAt p why × (acts' ≡ acts ++ Failed (ReadAt p at (length bytes)) ∷ [])

-- ---- what a call on a file has asked

-- these zeros were written; if that failed, the file was cut to where they began
abbrev pub HasFilled : {T : Type 0} → Place → ℕ → ℕ → Result T DiskFault → List Act → List Act → Type 0
HasFilled p from len (Ok done) acts acts' = acts' ≡ acts ++ Did (Fill p from len) ∷ []
HasFilled p from len (Err why) acts acts' = IsAt p why
    × ((acts' ≡ (acts ++ Failed (Fill p from len) ∷ []) ++ Did (Cut p from) ∷ [])
    ⊎ (acts' ≡ (acts ++ Failed (Fill p from len) ∷ []) ++ Failed (Cut p from) ∷ []))

-- how a file of this size is cut and secured
abbrev pub cuts_of : Place → ℕ → ℕ → List Ask
cuts_of p size len = if nat_lt len size then Cut p len ∷ Secure p ∷ [] else Secure p ∷ []

-- A file of this size was cut to a length and secured. One that has fewer bytes is at fault.
abbrev pub CutsFrom : {T : Type 0} → Place → ℕ → ℕ → Result T DiskFault → List Act → List Act → Type 0
CutsFrom p size len result acts acts' = ((size < len) × FailsAt p result × (acts' ≡ acts))
    ⊎ ((len ≤ size) × AsksAll (cuts_of p size len) result acts acts')

-- A file was measured, cut to a length if it is longer, and secured, and nothing else was asked.
abbrev pub CutsTo : {T : Type 0} → Place → ℕ → Result T DiskFault → List Act → List Act → Type 0
CutsTo p len result acts acts' = (FailsAt p result × (acts' ≡ acts ++ Failed (Measure p) ∷ []))
    ⊎ ((size : ℕ) × CutsFrom p size len result (acts ++ Measured p size ∷ []) acts')

-- A file was measured, and nothing else was asked. One that has a byte is at fault.
abbrev pub ChecksEmpty : {T : Type 0} → Place → Result T DiskFault → List Act → List Act → Type 0
ChecksEmpty p (Ok done) acts acts' = acts' ≡ acts ++ Measured p 0 ∷ []
ChecksEmpty p (Err why) acts acts' = IsAt p why × ((acts' ≡ acts ++ Failed (Measure p) ∷ [])
    ⊎ ((size : ℕ) × (0 < size) × (acts' ≡ acts ++ Measured p size ∷ [])))
