use Rattle.std.proofs.Common.{◌≡◌, drop}
use Rattle.judy_server.specs.Tally.{is_among}
use Rattle.judy_server.proofs.absent.Absent.has.Given as goal

abbrev pub invariant-loop-lacked : goal.invariant-loop-lacked
invariant-loop-lacked l = is_among (drop l.lacked-index l.fn.self) l.fn.name ≡ is_among l.fn.self l.fn.name
