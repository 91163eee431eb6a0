-- the rest decides
use Rattle.std.proofs.Common.{◌≡◌, drop}
use Rattle.std.specs.FinMap.{find}
use Rattle.judy_reference.proofs.store.content.Content.get.Given as goal

abbrev pub invariant-loop-entry : goal.invariant-loop-entry
invariant-loop-entry g l = find g.K.Ord.cmp l.key (drop l.entry-index l.entry-items) ≡ find g.K.Ord.cmp l.key l.self
