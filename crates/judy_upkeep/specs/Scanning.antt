-- The files that a repair looks at.
--     ScansSome result acts acts'    those that the manifest names are there; there may be more
use Rattle.std.specs.Prelude.{◌≡◌, ◌⊎◌, List, min, unwrap_or, Option, Some, None, Result, Ok, Err}
use Rattle.judy_disk.specs.Acts.{Act}
use Rattle.judy_disk.specs.Folders.{FindsManifest}
use Rattle.judy_disk.specs.Listings.{Finds, LacksManifest}
use Rattle.judy_disk.specs.Manifests.{lack_of}
use Rattle.judy_disk.specs.Scans.{fault_of}
use Rattle.judy_disk.specs.declared.faults.DiskFault.{DiskFault}
use Rattle.judy_disk.specs.declared.manifest.Lack.{Lack}
use Rattle.judy_disk.specs.declared.manifest.Manifest.{Manifest}
use Rattle.judy_disk.specs.declared.scan.Found.{Found}

-- how the files do not fit a manifest, but for those behind its last segment
abbrev pub lack_upto : Manifest → Found → Option Lack
lack_upto m f = lack_of m (unwrap_or f.snapshot 0) (min (unwrap_or f.last 0) m.last)

-- All names of the directory were listed. The files that this manifest names are there.
abbrev pub FindsSome : Manifest → Result Found DiskFault → List Act → List Act → Type 0
FindsSome m (Ok f) acts acts' = Finds (Ok f) acts acts' × (lack_upto m f ≡ None)
FindsSome m (Err why) acts acts' = Finds (Err why) acts acts'
    ⊎ ((f : Found) × (lack : Lack) × Finds (Ok f) acts acts' × (lack_upto m f ≡ Some lack) × (why ≡ fault_of lack))

-- The manifest was read, and then all names of the directory were listed. Nothing else was asked. The files that the
-- manifest names are there.
abbrev pub ScansSome : Result Found DiskFault → List Act → List Act → Type 0
ScansSome result acts acts' = LacksManifest result acts acts'
    ⊎ ((m : Manifest) × (read : List Act) × FindsManifest (Ok (Some m)) acts read × FindsSome m result read acts')
