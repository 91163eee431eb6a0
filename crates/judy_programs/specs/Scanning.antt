-- The files that a start finds.
--     ScansAs is_new result acts acts'    those that the manifest names, or those of a new journal
use Rattle.std.specs.Prelude.{Bool, true, false, List, Result}
use Rattle.judy_disk.specs.Acts.{Act}
use Rattle.judy_disk.specs.Listings.{Scans, ScansNew}
use Rattle.judy_disk.specs.declared.faults.DiskFault.{DiskFault}
use Rattle.judy_disk.specs.declared.scan.Found.{Found}

-- Those that the manifest names are all there. A new journal has no manifest.
abbrev pub ScansAs : Bool → Result Found DiskFault → List Act → List Act → Type 0
ScansAs true result acts acts' = ScansNew result acts acts'
ScansAs false result acts acts' = Scans result acts acts'
