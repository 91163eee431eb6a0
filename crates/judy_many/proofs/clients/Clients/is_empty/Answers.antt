use Rattle.std.proofs.Common.{arith}
use Rattle.judy_many.proofs.Seats.{all_free}
use Rattle.judy_many.proofs.clients.Clients.is_empty.Goals as goal

pub returns : goal.returns
returns g c = λ e. all_free c.args.self.now.slots.items (λ j few. c.loop-slot.invariant j (omega (arith, few)))
