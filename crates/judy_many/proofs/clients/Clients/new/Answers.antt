use Rattle.std.proofs.Common.{arith, ap, length, ◌∙◌, None, [], ◌∷◌}
use Rattle.std.proofs.lemmas.List.{length-append}
use Rattle.judy_many.proofs.Seats.{free_push}
use Rattle.judy_many.proofs.clients.Clients.new.Goals as goal

pub loop-slot-preserved : goal.loop-slot-preserved
loop-slot-preserved g c = record {
  free = rw c.in_ok-push.ensures.items (free_push _ c.loop-slot.invariant.free);
  many = let e = ap length c.in_ok-push.ensures.items ∙ length-append c.loop-slot.slots.items (None ∷ []) in let f = c.loop-slot.invariant.many in omega (arith, e, f);
}
