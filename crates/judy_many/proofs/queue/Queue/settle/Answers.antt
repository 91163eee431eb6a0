use Rattle.std.proofs.Common.{◌≡◌, ◌<◌, arith, length, subst, sym, true}
use Rattle.judy_many.specs.Queues.{stands_in}
use Rattle.judy_many.proofs.Queueing.{standing_below}
use Rattle.judy_many.proofs.queue.Queue.settle.Goals as goal

pub returns-then-slot-ge-CLIENTS_LIMIT-clause-more : goal.returns-then-slot-ge-CLIENTS_LIMIT-clause-more
returns-then-slot-ge-CLIENTS_LIMIT-clause-more c = λ e s.
    let below : c.args.slot < length c.self.inside.marks = standing_below c.self.inside.marks c.args.slot (subst (λ q. stands_in q c.args.slot ≡ true) (sym c.self.view_is) s) in
    absurd (omega (arith, below))
