-- How the files of a journal's directory are arranged.
--     IsGreatest numbers n             the greatest of these numbers, if there is one
--     first_after snapshot             the first segment that is read
--     IsRun segments first last        all segments from the first to the last one are there, and none behind
--     IsGap segments first n           this one is missing before another
--     Continues first last n after     a number that comes next in a run; Misses: one that does not
--     old_snapshots, old_segments      the files that a snapshot stands for
--     IsArranged segments snapshots torn f    the files that are read, and those that are not needed
--     IsUnarranged segments snapshots fault   why they are not read
--     ArrangesBy m segments snapshots torn result    the files as a manifest wants them
use Rattle.std.specs.Prelude.{◌≡◌, ◌⊎◌, ◌≤◌, ◌<◌, ◌+◌, ◌-◌, ◌^◌, ◌==◌, ℕ, Bool, true, false, List, [], ◌∷◌, ◌++◌, map, nat_lt, if◌then◌else◌, is_some, string_bytes, unwrap_or, Option, Some, None, Result, Ok, Err}
use Rattle.std.specs.List.{All, Contains, filter_map}
use Rattle.std.specs.List.Sorted.{IsPermutation}
use Rattle.std.specs.IoError.{error_kind}
use Rattle.std.specs.declared.io.ErrorKind.TheVariants as kind
use Rattle.judy_disk.specs.declared.faults.DiskFault.{DiskFault}
use Rattle.judy_disk.specs.declared.faults.DiskFault.TheVariants as fault
use Rattle.judy_disk.specs.declared.manifest.Lack.{Lack}
use Rattle.judy_disk.specs.declared.manifest.Lack.TheVariants as lack
use Rattle.judy_disk.specs.declared.manifest.Manifest.{Manifest}
use Rattle.judy_disk.specs.declared.names.Named.{Named}
use Rattle.judy_disk.specs.declared.names.Named.TheVariants as named
use Rattle.judy_disk.specs.declared.names.Place.{Place}
use Rattle.judy_disk.specs.declared.names.Place.TheVariants as place
use Rattle.judy_disk.specs.declared.scan.Found.{Found}
use Rattle.judy_disk.specs.Manifests.{lack_of}
use Rattle.judy_disk.specs.Names.{named_of}

abbrev pub IsGreatest : List ℕ → Option ℕ → Type 0
IsGreatest numbers None = numbers ≡ []
IsGreatest numbers (Some n) = Contains numbers n × All (λ m. m ≤ n) numbers

-- the one after the snapshot, or the first of all
abbrev pub first_after : Option ℕ → ℕ
first_after None = 1
first_after (Some n) = if nat_lt n (2 ^ 64 - 1) then n + 1 else n

-- all segments from the first to the last one are there, and none behind; with no last one there is none of them
abbrev pub IsRun : List ℕ → ℕ → Option ℕ → Type 0
IsRun segments first None = All (λ m. m < first) segments
IsRun segments first (Some last) = (first ≤ last) × ((n : ℕ) → first ≤ n → n ≤ last → Contains segments n) × All (λ m. m ≤ last) segments

-- this segment is missing, and a later one is there
pub record IsGap (segments : List ℕ) (first n : ℕ) : Type 0 where
  pub within : first ≤ n
  pub missing : All (λ m. m ≡ n → ⊥) segments
  pub later : (m : ℕ) × (n < m) × Contains segments m

-- One more number, not less than those before it, does not end the run: it comes before the first one, is the
-- last one again, or comes next.
abbrev pub Continues : ℕ → Option ℕ → ℕ → Option ℕ → Type 0
Continues first None n after = ((n < first) × (after ≡ None)) ⊎ ((n ≡ first) × (after ≡ Some n))
Continues first (Some last) n after = (((n < first) ⊎ (n ≤ last)) × (after ≡ Some last)) ⊎ ((n ≡ last + 1) × (after ≡ Some n))

-- with this number, the one that should come next is missing
abbrev pub Misses : ℕ → Option ℕ → ℕ → ℕ → Type 0
Misses first None n wanted = (wanted ≡ first) × (first < n)
Misses first (Some last) n wanted = (wanted ≡ last + 1) × (wanted < n) × (first ≤ n)

-- the snapshots but the newest, and the segments before the first that is read
abbrev pub is_newest : Option ℕ → ℕ → Bool
is_newest None n = false
is_newest (Some newest) n = n == newest

abbrev pub older : Option ℕ → ℕ → Option Place
older newest n = if is_newest newest n then None else Some (place.Snapshot n)

abbrev pub earlier : ℕ → ℕ → Option Place
earlier first n = if nat_lt n first then Some (place.Segment n) else None

abbrev pub old_snapshots : Option ℕ → List ℕ → List Place
old_snapshots newest snapshots = filter_map (older newest) snapshots

abbrev pub old_segments : ℕ → List ℕ → List Place
old_segments first segments = filter_map (earlier first) segments

pub record IsArranged (segments snapshots torn : List ℕ) (f : Found) : Type 0 where
  pub snapshot : IsGreatest snapshots f.snapshot
  pub first : f.first ≡ first_after f.snapshot
  pub run : IsRun segments f.first f.last
  -- behind a snapshot the next segment is there
  pub next : is_some f.snapshot ≡ true → is_some f.last ≡ true
  pub old : f.old.items ≡ (old_snapshots f.snapshot snapshots ++ old_segments f.first segments) ++ map place.Torn torn

-- ---- the numbers in the names of the files

abbrev pub segment_in : Named → List ℕ
segment_in (named.Segment n) = n ∷ []
segment_in _ = []

abbrev pub snapshot_in : Named → List ℕ
snapshot_in (named.Snapshot n) = n ∷ []
snapshot_in _ = []

abbrev pub torn_in : Named → List ℕ
torn_in (named.Torn n) = n ∷ []
torn_in _ = []

-- no file of a journal has this name
abbrev pub is_other : Named → Bool
is_other named.Other = true
is_other _ = false

-- the greatest of these numbers, 0 for none
abbrev pub IsGreatestOr0 : List ℕ → ℕ → Type 0
IsGreatestOr0 numbers n = IsGreatest numbers (Some n) ⊎ ((numbers ≡ []) × (n ≡ 0))

-- ---- why they are not read

-- a segment is missing before a later one, or the one after the newest snapshot is
pub record IsLacking (segments snapshots : List ℕ) (n : ℕ) : Type 0 where
  pub snapshot : Option ℕ
  pub newest : IsGreatest snapshots snapshot
  pub lacks : IsGap segments (first_after snapshot) n
      ⊎ ((is_some snapshot ≡ true) × (n ≡ first_after snapshot) × All (λ m. m < n) segments)

-- there was no memory for the names of the directory
abbrev pub IsOutOfMemory : DiskFault → Type 0
IsOutOfMemory (fault.System at reason) = (at ≡ place.Folder) × (error_kind reason ≡ kind.OutOfMemory)
IsOutOfMemory other = ⊥

-- no file of a journal has this name
abbrev pub IsOther : List ℕ → DiskFault → Type 0
IsOther name (fault.Name text) = (named_of name ≡ named.Other) × (string_bytes text ≡ name)
IsOther name other = ⊥

-- a segment is missing, or out of memory
abbrev pub IsUnarranged : List ℕ → List ℕ → DiskFault → Type 0
IsUnarranged segments snapshots why = ((n : ℕ) × (why ≡ fault.Missing (place.Segment n)) × IsLacking segments snapshots n)
    ⊎ IsOutOfMemory why

-- ---- the files as a manifest wants them

-- the files that are read, of segments in any order
pub record IsFound (segments snapshots torn : List ℕ) (f : Found) : Type 0 where
  pub sorted : List ℕ
  pub same : IsPermutation segments sorted
  pub arranged : IsArranged sorted snapshots torn f

-- why they are not read
pub record IsUnfound (segments snapshots : List ℕ) (why : DiskFault) : Type 0 where
  pub sorted : List ℕ
  pub same : IsPermutation segments sorted
  pub unarranged : IsUnarranged sorted snapshots why

-- how files do not fit a manifest, as a fault
abbrev pub fault_of : Lack → DiskFault
fault_of (lack.Snapshot n) = fault.Missing (place.Snapshot n)
fault_of (lack.Segment n) = fault.Missing (place.Segment n)
fault_of (lack.Behind n) = fault.Behind n

-- how the files that are read do not fit a manifest
abbrev pub lack_in : Manifest → Found → Option Lack
lack_in m f = lack_of m (unwrap_or f.snapshot 0) (unwrap_or f.last 0)

-- The files that are read fit the manifest, or this is how they do not.
abbrev pub FitsBy : Manifest → List ℕ → List ℕ → List ℕ → Result Found DiskFault → Type 0
FitsBy m segments snapshots torn (Ok f) = IsFound segments snapshots torn f × (lack_in m f ≡ None)
FitsBy m segments snapshots torn (Err why) = IsUnfound segments snapshots why
    ⊎ ((f : Found) × (lack : Lack) × IsFound segments snapshots torn f × (lack_in m f ≡ Some lack) × (why ≡ fault_of lack))

-- An older snapshot than that of the manifest is told first, whichever segments there are.
abbrev pub ArrangesFrom : Option Lack → Manifest → List ℕ → List ℕ → List ℕ → Result Found DiskFault → Type 0
ArrangesFrom None m segments snapshots torn result = FitsBy m segments snapshots torn result
ArrangesFrom (Some lack) m segments snapshots torn result = result ≡ Err (fault_of lack)

-- The files that are read fit the manifest, or a fault says why not.
pub record ArrangesBy (m : Manifest) (segments snapshots torn : List ℕ) (result : Result Found DiskFault) : Type 0 where
  pub newest : ℕ
  pub greatest : IsGreatestOr0 snapshots newest
  pub by : ArrangesFrom (lack_of m newest m.last) m segments snapshots torn result
