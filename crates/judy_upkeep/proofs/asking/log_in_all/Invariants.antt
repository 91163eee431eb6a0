use Rattle.std.specs.List.{All}
use Rattle.judy_protocol.specs.Services.{IsKnown}
use Rattle.judy_upkeep.proofs.asking.log_in_all.Given as goal

abbrev pub invariant-loop-number : goal.invariant-loop-number
invariant-loop-number g l = All (λ s. IsKnown (g.S.Served.seen l.fn.service).speakers (g.S.Served.who s)) l.speakers.items
