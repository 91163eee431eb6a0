use Rattle.std.proofs.Common.{◌≡◌, ◌≤◌, ℕ, List, [], ◌∷◌, take, drop, length, get_or, ap, refl, arith}
use Rattle.judy_bitmap.specs.ByteSets.{members}
use Rattle.judy_leaf.proofs.bitmap.bit_words.Goals as goal

four : (ws : List ℕ) → 6 ≤ length ws → take 4 (drop 2 ws) ≡ get_or ws 2 0 ∷ get_or ws 3 0 ∷ get_or ws 4 0 ∷ get_or ws 5 0 ∷ []
four [] h = absurd (omega arith)
four (a ∷ []) h = absurd (omega arith)
four (a ∷ b ∷ []) h = absurd (omega arith)
four (a ∷ b ∷ c ∷ []) h = absurd (omega arith)
four (a ∷ b ∷ c ∷ d ∷ []) h = absurd (omega arith)
four (a ∷ b ∷ c ∷ d ∷ e ∷ []) h = absurd (omega arith)
four (a ∷ b ∷ c ∷ d ∷ e ∷ f ∷ ws) h = refl

pub returns-clause-same : goal.returns-clause-same
returns-clause-same c = ap members (four c.args.words.now c.requires)
