use Rattle.std.proofs.Common.{◌≡◌, length}
use Rattle.judy_many.specs.Crowds.{AreFree}
use Rattle.judy_many.proofs.clients.Clients.new.Given as goal

abbrev pub invariant-loop-slot : goal.invariant-loop-slot
invariant-loop-slot g l = record {
  free : AreFree l.slots.items;
  many : length l.slots.items ≡ l._slot;
}
