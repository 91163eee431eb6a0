use Rattle.std.proofs.Common.{ap}
use Rattle.judy_many.specs.Queues.{stands}
use Rattle.judy_many.proofs.Queueing.{all_out, new_queue}
use Rattle.judy_many.proofs.queue.Queue.new.Goals as goal

pub invariant_of-result : goal.invariant_of-result
invariant_of-result c = new_queue _ _ (λ i. all_out 1024 i)

pub returns-clause-asleep : goal.returns-clause-asleep
returns-clause-asleep c = λ i. ap stands (all_out 1024 i)
