-- The statuses of the program, and its lines on standard error.
use Rattle.std.specs.Prelude.{ℕ, List, ◌++◌, Option, Some, None, codes}
use Rattle.judy_protocol.specs.declared.connection.End.TheVariants as ends
use Rattle.judy_table.specs.declared.fault.TableFault.{TableFault}
use Rattle.judy_table.specs.declared.fault.TableFault.TheVariants as fault
use Rattle.judy_programs.specs.declared.program.Ran.{Ran}
use Rattle.judy_programs.specs.declared.program.Ran.TheVariants as ran
use Rattle.judy_programs.specs.declared.socket.Hosted.{Hosted}
use Rattle.judy_programs.specs.declared.socket.Hosted.TheVariants as host

-- the name of a fault
abbrev pub fault_name : TableFault → List ℕ
fault_name fault.Memory = codes "Memory"
fault_name fault.Toml = codes "Toml"
fault_name fault.Shape = codes "Shape"
fault_name fault.Count = codes "Count"
fault_name fault.Name = codes "Name"
fault_name fault.Digest = codes "Digest"
fault_name fault.Quota = codes "Quota"
fault_name fault.Pieces = codes "Pieces"

-- the line for a fault of the table
abbrev pub fault_text : TableFault → List ℕ
fault_text f = codes "judyd: table: " ++ fault_name f

-- 0 on success, 3 for a fault of the table, and 4 for any other fault
abbrev pub run_status : Ran → ℕ
run_status (ran.Served ends.Quit) = 0
run_status (ran.Served ends.End) = 0
run_status (ran.Served ends.ReadFault) = 4
run_status (ran.Served ends.WriteFault) = 4
run_status (ran.Served ends.Limit) = 4
run_status (ran.Table f) = 3
run_status ran.Cut = 3
run_status ran.Long = 3
run_status ran.Memory = 4
run_status ran.Read = 4
run_status ran.Write = 4

abbrev pub run_text : Ran → Option (List ℕ)
run_text (ran.Served ends.Quit) = None
run_text (ran.Served ends.End) = None
run_text (ran.Served ends.ReadFault) = Some (codes "judyd: read fault")
run_text (ran.Served ends.WriteFault) = Some (codes "judyd: write fault")
run_text (ran.Served ends.Limit) = Some (codes "judyd: read limit")
run_text (ran.Table f) = Some (fault_text f)
run_text ran.Cut = Some (codes "judyd: table: Cut")
run_text ran.Long = Some (codes "judyd: table: Long")
run_text ran.Memory = Some (codes "judyd: memory")
run_text ran.Read = Some (codes "judyd: read fault")
run_text ran.Write = Some (codes "judyd: write fault")

abbrev pub host_status : Hosted → ℕ
host_status host.Done = 0
host_status host.Stopped = 0
host_status host.Config = 4
host_status host.Long = 3
host_status (host.Table f) = 3
host_status host.Memory = 4
host_status host.Reserve = 4
host_status host.Socket = 4
host_status host.Recovery = 3
host_status host.Journal = 1

abbrev pub host_text : Hosted → Option (List ℕ)
host_text host.Done = None
host_text host.Stopped = None
host_text host.Config = Some (codes "judyd: config fault")
host_text host.Long = Some (codes "judyd: table: Long")
host_text (host.Table f) = Some (fault_text f)
host_text host.Memory = Some (codes "judyd: memory")
host_text host.Reserve = Some (codes "judyd: memory: no memory for --reserve")
host_text host.Socket = Some (codes "judyd: socket fault")
host_text host.Recovery = None
host_text host.Journal = Some (codes "judyd: journal fault")
