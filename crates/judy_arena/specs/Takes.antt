-- What a call takes, by the arena's whole view before and after.
--     Takes n old new          it takes at most n new blocks, of at most 512 words each
--     TakesNothing old new     it asks for no block
-- Calls in a row add up: TakesAddUp.
use Rattle.std.specs.Prelude.{◌≡◌, ◌⊎◌, ℕ, ◌+◌, ◌*◌, ◌≤◌, max}
use Rattle.judy_arena.specs.Blocks.{ArenaState}

-- from these counts of refusals, live words, the peak, the words of the machine and those taken
-- beforehand to those: by at most n blocks
pub record Rise (n refusals1 live1 peak1 region1 reserved1 refusals2 live2 peak2 region2 reserved2 : ℕ) : Type 0 where
  -- so many words more are live at the end
  pub words : live2 ≤ live1 + 512 * n
  -- so many words more are live at any time in between
  pub peak : peak2 ≤ max peak1 (live1 + 512 * n)
  -- the peak never falls
  pub rises : peak1 ≤ peak2
  -- each block takes at most a run of 512 words from the machine
  pub region : region2 ≤ region1 + 512 * n
  -- what is taken from the machine stays
  pub kept : region1 ≤ region2
  -- nothing is taken beforehand
  pub reserved : reserved2 ≡ reserved1
  -- a request is refused only while every run has a live block, of at least 4 words
  pub refused : (refusals2 ≡ refusals1) ⊎ (region1 ≤ 128 * peak2)

-- a call that takes at most n new blocks: in all its requests together, whatever it gives back
abbrev pub Takes : ℕ → ArenaState → ArenaState → Type 0
Takes n old new = Rise n old.refusals old.live old.peak old.region old.reserved new.refusals new.live new.peak new.region new.reserved

-- from these counts of refusals, live words, the peak, the words of the machine and those taken
-- beforehand to those: without a request
pub record Rest (refusals1 live1 peak1 region1 reserved1 refusals2 live2 peak2 region2 reserved2 : ℕ) : Type 0 where
  pub refusals : refusals2 ≡ refusals1
  pub region : region2 ≡ region1
  pub peak : peak2 ≡ peak1
  pub reserved : reserved2 ≡ reserved1
  -- the call may give words back
  pub words : live2 ≤ live1

-- a call that asks for no block
abbrev pub TakesNothing : ArenaState → ArenaState → Type 0
TakesNothing old new = Rest old.refusals old.live old.peak old.region old.reserved new.refusals new.live new.peak new.region new.reserved

-- how calls in a row add up
pub record TakesAddUp : Type 0 where
  pub none : (a b : ArenaState) → TakesNothing a b → Takes 0 a b
  pub more : (n m : ℕ) (a b : ArenaState) → n ≤ m → Takes n a b → Takes m a b
  pub two : (n m : ℕ) (a b c : ArenaState) → Takes n a b → Takes m b c → Takes (n + m) a c
  pub rests : (a b c : ArenaState) → TakesNothing a b → TakesNothing b c → TakesNothing a c
  -- with nothing taken nothing new comes from the machine
  pub still : (a b : ArenaState) → Takes 0 a b → b.region ≡ a.region
