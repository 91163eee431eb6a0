-- What a disk keeps of a file.
--     MayLeave synced file   a crash may leave this file, where so much was synced
use Rattle.std.specs.Prelude.{◌≡◌, ℕ, List, ◌++◌}

-- A crash leaves all that was synced, and any bytes behind it: what was written since, a part of it, zeros, others.
abbrev pub MayLeave : List ℕ → List ℕ → Type 0
MayLeave synced file = (more : List ℕ) × (file ≡ synced ++ more)
