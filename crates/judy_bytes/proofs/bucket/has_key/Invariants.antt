use Rattle.judy_bytes.proofs.Buckets.{Agree}
use Rattle.judy_bytes.proofs.bucket.has_key.Given as goal

abbrev pub invariant-loop-j : goal.invariant-loop-j
invariant-loop-j l = Agree l.j l.words l.key
