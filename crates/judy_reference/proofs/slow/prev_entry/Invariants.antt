-- the last one so far
use Rattle.std.proofs.Common.{◌≡◌, take}
use Rattle.std.specs.Prelude.{filter, nat_lt}
use Rattle.judy_model.specs.Contents.{last_of}
use Rattle.judy_reference.proofs.slow.prev_entry.Given as goal

abbrev pub invariant-loop-e : goal.invariant-loop-e
invariant-loop-e l = l.best ≡ last_of (filter (λ e. nat_lt e.0 l.x) (take l.e-index l.entries))
