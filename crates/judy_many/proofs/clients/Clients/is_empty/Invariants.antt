use Rattle.std.proofs.Common.{◌≡◌, ◌<◌, ℕ, None, slice_index_or}
use Rattle.judy_many.proofs.clients.Clients.is_empty.Given as goal

abbrev pub invariant-loop-slot : goal.invariant-loop-slot
invariant-loop-slot g l = (j : ℕ) → j < l.slot → slice_index_or l.self.slots.items j None ≡ None
