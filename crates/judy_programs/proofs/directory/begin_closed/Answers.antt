use Rattle.std.proofs.Common.{ℕ, List, Option, Some, None, Err, refl, inl}
use Rattle.judy_disk.specs.Acts.{Act}
use Rattle.judy_disk.specs.Folders.{asked_of}
use Rattle.judy_disk.specs.declared.faults.DiskFault.{DiskFault}
use Rattle.judy_disk.specs.declared.files.Growing.{Growing}
use Rattle.judy_programs.specs.Beginning.{BeginsFile}
use Rattle.judy_programs.proofs.directory.begin_closed.Goals as goal

-- what was asked does not depend on what would have been returned
not_begun : {F A D : Type 0} (made : Option (Growing F A D)) (n : ℕ) (why : DiskFault) (acts acts' : List Act)
    → BeginsFile {T = Growing F A D} made n (Err why) acts acts' → BeginsFile {T = Unit {0}} made n (Err why) acts acts'
not_begun None n why acts acts' h = h
not_begun (Some made) n why acts acts' h = record { size = h.size; rest = h.rest }

pub returns-in-Err : goal.returns-in-Err
returns-in-Err g c =
    inl (not_begun c.args.made c.args.segment c.in-Err.fault (asked_of c.args.folder.now) (asked_of c.begin_file.new.folder) c.in-Err.ensures.acts, refl)
