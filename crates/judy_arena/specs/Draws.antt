-- What a call takes from the machine, by the arena's whole view before and after.
use Rattle.std.specs.Prelude.{◌≡◌, ℕ, ◌+◌, ◌<◌, ◌≤◌}
use Rattle.judy_arena.specs.Blocks.{ArenaState}

-- a call that takes one new block of this many words: nothing if a free block serves, and otherwise
-- a run of 512 words
pub record DrawsBlock (old new : ArenaState) (size : ℕ) : Type 0 where
  pub reuse : size ≤ old.ready → new.region ≡ old.region
  pub growth : old.ready < size → new.region ≡ old.region + 512
