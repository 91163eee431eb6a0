use Rattle.std.proofs.Common.{◌≡◌, ◌≤◌}
use Rattle.arrayvec.specs.ArrayVec.{array_vec_len}
use Rattle.judy_many.specs.Queues.{AreTurned, IsSifted}
use Rattle.judy_many.proofs.Sifting.{AreFirst, ArePassedTo, AwakeOr}
use Rattle.judy_many.proofs.queue.Queue.sift.Given as goal

abbrev pub invariant-loop-place : goal.invariant-loop-place
invariant-loop-place l = record {
  same : l.self-inside.count ≡ l.initial.self-inside.count;
  sifted : IsSifted l.self-inside.order l.self-inside.count l.kept l.place l.self-inside.marks;
  awake : AwakeOr l.initial.self-inside.marks l.self-inside.marks l.later.items;
  long : array_vec_len l.later ≤ l.place;
  first : AreFirst l.initial.self-inside.marks l.self-inside.marks l.self-inside.order l.place l.self-inside.count;
  kept : ArePassedTo l.initial.self-inside.marks l.self-inside.order l.kept;
  turned : AreTurned l.initial.self-inside.marks l.later.items;
}
