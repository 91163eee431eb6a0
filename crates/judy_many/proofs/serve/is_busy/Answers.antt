use Rattle.std.proofs.Common.{arith}
use Rattle.judy_many.proofs.Watching.{awake_stands}
use Rattle.judy_many.proofs.serve.is_busy.Goals as goal

pub returns : goal.returns
returns g c = λ idle i awake.
    let place = c.len.ensures.found i (awake_stands c.args.clients.now.queue i awake) in
    let below = place.1 in
    let long = c.len.ensures.long in
    absurd (omega (arith, below, long))
