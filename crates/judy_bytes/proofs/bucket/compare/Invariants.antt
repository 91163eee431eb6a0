use Rattle.std.proofs.Common.{◌≡◌, drop}
use Rattle.judy_model.specs.Contents.{string_order}
use Rattle.judy_bytes.specs.Buckets.{bucket_key}
use Rattle.judy_bytes.proofs.bucket.compare.Given as goal

-- the bytes so far leave it to the others
abbrev pub invariant-loop-j : goal.invariant-loop-j
invariant-loop-j l = string_order (bucket_key l.words) l.key ≡ string_order (drop l.j (bucket_key l.words)) (drop l.j l.key)
