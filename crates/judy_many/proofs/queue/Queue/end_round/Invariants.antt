use Rattle.std.proofs.Common.{◌≡◌, ◌⊎◌, ℕ, true}
use Rattle.judy_many.specs.Queues.{awake_in}
use Rattle.judy_many.proofs.Sifting.{AreParted, IsFrom}
use Rattle.judy_many.proofs.queue.Queue.end_round.Given as goal

abbrev pub invariant-loop-place : goal.invariant-loop-place
invariant-loop-place l = record {
  awake : (i : ℕ) → awake_in l.fn.self i ≡ true → (awake_in l.self i ≡ true) ⊎ IsFrom l.place i l.later.items;
  parted : (b : ℕ) × AreParted l.fn.self.marks l.self.order b;
}
