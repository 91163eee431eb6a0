-- How many blocks an insertion takes.
use Rattle.std.proofs.Common.{◌≡◌, ℕ, ◌≤◌, Bool, true, false, cond, Result, Ok, Err, IsErr, arith}
use Rattle.judy_arena.specs.Blocks.{ArenaState}
use Rattle.judy_arena.specs.Takes.{Takes}
use Rattle.judy_arena.specs.declared.blocks.NoMemory.{NoMemory}
use Rattle.judy_arena.proofs.lemmas.TakeLaws.{takes-more}
use Rattle.judy_string.specs.Changes.{most_blocks}
use Rattle.judy_tree.specs.declared.answers.Inserted.{Inserted}

-- a call takes nothing for a present key, and otherwise at most n blocks, and so at most m
pub for-key : (n m : ℕ) (t s : Bool) (a b : ArenaState) → t ≡ s → n ≤ m → Takes (cond {A = ℕ} t 0 n) a b → Takes (cond {A = ℕ} s 0 m) a b
for-key n m true true a b same le t = t
for-key n m false false a b same le t = takes-more n m a b le t
for-key n m true false a b same le t = cc
for-key n m false true a b same le t = cc

-- so in each case at most m
pub for-any : (n m : ℕ) (t : Bool) (a b : ArenaState) → n ≤ m → Takes (cond {A = ℕ} t 0 n) a b → Takes m a b
for-any n m true a b le t = takes-more 0 m a b (omega arith) t
for-any n m false a b le t = takes-more n m a b le t

-- a refused insertion
pub for-err : (n : ℕ) (r : Result Inserted NoMemory) (a b : ArenaState) → IsErr r → Takes n a b → Takes (most_blocks n r) a b
for-err n (Ok e) a b h t = cc
for-err n (Err x) a b h t = t
