use Rattle.std.proofs.Common.{◌≡◌, ◌<◌, ◌^◌}
use Rattle.judy_packing.specs.Packing.{pack_at}
use Rattle.judy_packing.proofs.pack.Given as goal

abbrev pub invariant-loop-i : goal.invariant-loop-i
invariant-loop-i l = record { word : l.word ≡ pack_at l.i l.bytes; small : l.word < 256 ^ l.i }
