-- the rest decides, this many places later
use Rattle.std.proofs.Common.{◌≡◌, drop}
use Rattle.judy_reference.specs.Store.{later, sorted_place}
use Rattle.judy_reference.proofs.store.content.search.Given as goal

abbrev pub invariant-loop-place : goal.invariant-loop-place
invariant-loop-place g l = sorted_place g.K.Ord.cmp l.key l.entries ≡ later l.place (sorted_place g.K.Ord.cmp l.key (drop l.place l.entries))
