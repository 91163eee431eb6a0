-- the first one of those that were seen
use Rattle.std.proofs.Common.{[], take, unwrap_or}
use Rattle.std.specs.Option.{option_copied}
use Rattle.judy_reference.proofs.ByteWalkLemmas.{IsBest}
use Rattle.judy_reference.proofs.store.byte_walks.next_place.Given as goal

abbrev pub invariant-loop-e : goal.invariant-loop-e
invariant-loop-e l = IsBest (take l.e-index l.entries) (unwrap_or (option_copied l.from) []) l.best
