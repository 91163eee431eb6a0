-- How many blocks an insertion takes.
use Rattle.std.proofs.Common.{◌≡◌, ℕ, Bool, true, false, cond}
use Rattle.judy_arena.specs.Blocks.{ArenaState}
use Rattle.judy_arena.specs.Takes.{Takes}

-- an insertion of an absent key
pub for-absent : (n : ℕ) (t : Bool) (a b : ArenaState) → t ≡ false → Takes n a b → Takes (cond {A = ℕ} t 0 n) a b
for-absent n true a b is t = cc
for-absent n false a b is t = t
