use Rattle.std.proofs.Common.{◌≡◌, drop, take}
use Rattle.judy_bytes.specs.Buckets.{bucket_bytes_of}
use Rattle.judy_bytes.proofs.bucket.read_key.Given as goal

-- the buffer has the bytes of so many words
abbrev pub invariant-loop-j : goal.invariant-loop-j
invariant-loop-j l = l.buffer.items ≡ bucket_bytes_of (take l.j (drop 3 l.words))
