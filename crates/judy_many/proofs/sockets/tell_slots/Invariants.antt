use Rattle.judy_many.specs.Queues.{AreAwake, StayAwake}
use Rattle.judy_many.proofs.sockets.tell_slots.Given as goal

abbrev pub invariant-loop-event : goal.invariant-loop-event
invariant-loop-event l = record {
  stay : StayAwake l.fn.queue l.queue;
  told : AreAwake l.fn.told.items l.fn.queue → AreAwake l.told.items l.queue;
}
