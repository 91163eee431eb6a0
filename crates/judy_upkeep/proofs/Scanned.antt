-- The files that a repair looks at do not fit the manifest.
use Rattle.std.proofs.Common.{◌≡◌, inl, inr, sym, subst, List}
use Rattle.std.specs.Prelude.{IsErr, IsErrAnd, Option, Some, Result, Ok, Err}
use Rattle.judy_disk.specs.Acts.{Act}
use Rattle.judy_disk.specs.Folders.{FindsManifest}
use Rattle.judy_disk.specs.Listings.{Finds}
use Rattle.judy_disk.specs.Scans.{fault_of}
use Rattle.judy_disk.specs.declared.faults.DiskFault.{DiskFault}
use Rattle.judy_disk.specs.declared.manifest.Lack.{Lack}
use Rattle.judy_disk.specs.declared.manifest.Manifest.{Manifest}
use Rattle.judy_disk.specs.declared.scan.Found.{Found}
use Rattle.judy_upkeep.specs.Scanning.{ScansSome, lack_upto}

-- nothing was found
pub unfound : (m : Manifest) (o : Option Manifest) (acts read after : List Act) (why : DiskFault) (r : Result Found DiskFault)
    → FindsManifest (Ok o) acts read → o ≡ Some m → Finds (Err why) read after → IsErr r × IsErrAnd r (λ e. e ≡ why) → ScansSome r acts after
unfound m o acts read after why (Ok f) found is finds (one, same) = absurd same
unfound m o acts read after why (Err e) found is finds (one, same) =
    inr (
      m,
      read,
      subst (λ (v : Option Manifest). FindsManifest (Ok v) acts read) is found,
      inl (subst (λ (v : DiskFault). Finds (Err v) read after) (sym same) finds),
    )

-- a file is missing
pub unfit : (m : Manifest) (o : Option Manifest) (f : Found) (lack : Lack) (acts read after : List Act) (why : DiskFault)
    → FindsManifest (Ok o) acts read → o ≡ Some m → Finds (Ok f) read after → lack_upto m f ≡ Some lack → why ≡ fault_of lack
    → ScansSome (Err why) acts after
unfit m o f lack acts read after why found is finds lacks told =
    inr (m, read, subst (λ (v : Option Manifest). FindsManifest (Ok v) acts read) is found, inr (f, lack, finds, lacks, told))
