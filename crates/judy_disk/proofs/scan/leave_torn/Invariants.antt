use Rattle.std.proofs.Common.{◌≡◌, ◌++◌}
use Rattle.std.specs.Prelude.{map, take}
use Rattle.judy_disk.specs.declared.names.Place.TheVariants as place
use Rattle.judy_disk.proofs.scan.leave_torn.Given as goal

abbrev pub invariant-loop-number : goal.invariant-loop-number
invariant-loop-number l = l.old.items ≡ l.fn.old.items ++ map place.Torn (take l.number-index l.torn)
