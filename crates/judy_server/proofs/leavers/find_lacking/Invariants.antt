use Rattle.std.proofs.Common.{take}
use Rattle.judy_server.specs.Reloads.{AreGathered, lacking}
use Rattle.judy_server.proofs.leavers.find_lacking.Given as goal

abbrev pub invariant-loop-row : goal.invariant-loop-row
invariant-loop-row g l = AreGathered (lacking (take l.row l.fn.service.tenants) l.fn.table) l.first l.request.items
