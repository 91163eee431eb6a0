-- How many blocks an insertion takes.
use Rattle.std.proofs.Common.{◌≡◌, ℕ, ◌+◌, ◌<◌, ◌≤◌, Bool, true, false, cond, arith}

-- a child of a node with few keys has few keys
pub kid-few : (n m : ℕ) (s t : Bool) → n < m → m + cond {A = ℕ} t 0 1 ≤ 31 → n + cond {A = ℕ} s 0 1 ≤ 31
kid-few n m true t less few = omega (arith, less, few)
kid-few n m false t less few = omega (arith, less, few)

-- where it has few keys, it is not split
pub not-few : (n : ℕ) (t : Bool) → t ≡ false → n ≡ 31 → n + cond {A = ℕ} t 0 1 ≤ 31 → ⊥
not-few n true is full few = cc
not-few n false is full few = omega (arith, full, few)
