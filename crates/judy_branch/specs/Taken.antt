-- What a branch becomes without one of its children.
use Rattle.std.specs.Prelude.{◌≡◌, ℕ, [], ◌∷◌}
use Rattle.judy_arena.specs.Blocks.{Blocks}
use Rattle.judy_arena.specs.Frame.{Frame}
use Rattle.judy_model.specs.Contents.{word_order, without_key}
use Rattle.judy_branch.specs.declared.take.Taken.{Taken}
use Rattle.judy_branch.specs.declared.take.Taken.TheVariants.{Branch, Only}
use Rattle.judy_branch.specs.Branch.{IsBranchOf, branch_view, branch_number, without_child}

-- without the byte's child, the branch w became the branch r, with this population
pub record IsLess (old new : Blocks) (w byte n r : ℕ) : Type 0 where
  pub branch : IsBranchOf new r (without_child (branch_view old w) byte n)
  pub frame : Frame old new (branch_number w ∷ []) (branch_number r ∷ [])

-- only one other child is left, and r is it: the branch's block is released
pub record IsGone (old new : Blocks) (w byte r : ℕ) : Type 0 where
  pub last : ℕ
  pub only : without_key word_order (branch_view old w).children byte ≡ (last, r) ∷ []
  pub frame : Frame old new (branch_number w ∷ []) []

abbrev pub IsTakenChild : Blocks → Blocks → ℕ → ℕ → ℕ → Taken → Type 0
IsTakenChild old new w byte n (Branch r) = IsLess old new w byte n r
IsTakenChild old new w byte n (Only r) = IsGone old new w byte r
