use Rattle.std.proofs.Common.{◌≡◌}
use Rattle.std.specs.Prelude.{drop}
use Rattle.judy_disk.specs.Manifests.{number_after}
use Rattle.judy_disk.proofs.manifest.number_after.Given as goal

abbrev pub invariant-loop-byte : goal.invariant-loop-byte
invariant-loop-byte l = number_after l.sum (drop l.byte-index l.bytes) ≡ number_after l.fn.number l.fn.bytes
