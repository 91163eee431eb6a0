use Rattle.std.proofs.Common.{◌≡◌, ℕ, zero, suc, refl}
use Rattle.std.proofs.Math.ListN.{replicate}
use Rattle.judy_many.specs.Shares.{count_in}
use Rattle.judy_many.proofs.shares.Shares.new.Goals as goal

-- a list of zeros
zeros : (n g : ℕ) → count_in (replicate n 0) g ≡ 0
zeros zero g = refl
zeros (suc n) zero = refl
zeros (suc n) (suc g) = zeros n g

pub returns : goal.returns
returns c = record { none = λ g. zeros 66 g }
