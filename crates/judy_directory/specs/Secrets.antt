-- The hashes of names.
--     start_of secret      the start of the hash of each name
--     hash_of secret key   the hash of a name, by its key
use Rattle.std.specs.Prelude.{ℕ, List, drop, slice_index}
use Rattle.std.specs.Hash.{le_bytes}
use Rattle.std.specs.Hash.FoldHasher as folding

-- the state of a hash after a secret
abbrev pub start_of : List ℕ → ℕ
start_of secret = folding.finish (folding.write folding.initial secret)

-- the hash of a name: the secret, the two bytes of tenant and kind, and all bytes of the name
abbrev pub hash_of : List ℕ → List ℕ → ℕ
hash_of secret key = folding.finish (folding.write (folding.write (folding.write folding.initial secret) (le_bytes 2 (slice_index key 0))) (drop 1 key))
