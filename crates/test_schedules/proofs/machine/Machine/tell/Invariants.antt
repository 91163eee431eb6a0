use Rattle.judy_many.specs.Queues.{StayAwake}
use Rattle.test_schedules.proofs.machine.Machine.tell.Given as goal

abbrev pub invariant-loop-event : goal.invariant-loop-event
invariant-loop-event l = record { stay : StayAwake l.fn.queue l.queue }
