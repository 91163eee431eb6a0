-- Laws of branches, for the crates above.
use Rattle.std.specs.Prelude.{◌≡◌, ℕ, ◌*◌, ◌-◌, ◌%◌, ◌^◌, ◌<◌, ◌≤◌, true, IsTrue, length, nat_lt}
use Rattle.std.specs.List.{list_all}
use Rattle.judy_arena.specs.Blocks.{Blocks, is_live, block}
use Rattle.judy_refs.specs.References.{kind_part}
use Rattle.judy_model.specs.Contents.{word_order, IsRising}
use Rattle.judy_branch.specs.Children.{is_child_entry}
use Rattle.judy_branch.specs.Branch.{IsBranch, IsBranchOf, branch_view, branch_words, branch_number}

-- a branch is the same if its own block is the same
abbrev pub BranchStays : Type 0
BranchStays = (b c : Blocks) (w : ℕ) → block c (branch_number w) ≡ block b (branch_number w) → IsBranch b w → IsBranchOf c w (branch_view b w)

-- what holds of every branch
pub record IsSoundBranch (b : Blocks) (w : ℕ) : Type 0 where
  pub kind : nat_lt 3 (kind_part w) ≡ true
  pub known : kind_part w ≤ 6
  pub live : IsTrue (is_live b (branch_number w))
  pub number : branch_number w < 2 ^ 32
  pub level : (branch_view b w).level ≤ 6
  pub prefix : (branch_view b w).prefix % 2 ^ (64 - 8 * (branch_view b w).level) ≡ 0
  pub rising : IsRising word_order (branch_view b w).children
  pub children : IsTrue (list_all is_child_entry (branch_view b w).children)
  pub two : 2 ≤ length (branch_view b w).children
  pub few : length (branch_view b w).children ≤ 256
  pub some_words : 4 ≤ length (branch_words b w)
  pub words : length (branch_words b w) ≤ 4 * length (branch_view b w).children

abbrev pub BranchesAreSound : Type 0
BranchesAreSound = (b : Blocks) (w : ℕ) → IsBranch b w → IsSoundBranch b w
