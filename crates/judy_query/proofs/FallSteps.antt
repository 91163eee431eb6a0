-- What a search down for an absent word knows once a child of the branch has answered.
use Rattle.std.proofs.Common.{◌≡◌, ℕ, ◌+◌, Bool, true, Option, Some, None}
use Rattle.judy_arena.specs.Blocks.{Blocks}
use Rattle.judy_model.specs.Contents.{word_order, value_of}
use Rattle.judy_model.specs.Gaps.{last_empty}
use Rattle.judy_branch.specs.Branch.{branch_view}
use Rattle.judy_tree.specs.Nodes.{head_at, is_branch}
use Rattle.judy_tree.specs.Root.{IsRoot, entries}
use Rattle.judy_query.proofs.Falls.{Fall, down_of}
use Rattle.judy_query.proofs.BranchFalls.{fall-top, fall-inside, fall-head, fall-after}

-- the child has nothing down to 0, or the word is the branch's answer, or the search goes on from it
pub record Step (v : Bool) (b : Blocks) (w x : ℕ) (o : Option ℕ) : Type 0 where
  pub top : o ≡ None → None ≡ last_empty (entries v b w) x
  pub inside : (g : ℕ) → o ≡ Some g → head_at (branch_view b w).level g ≡ head_at (branch_view b w).level x
      → Some g ≡ last_empty (entries v b w) x
  pub head : (g : ℕ) → o ≡ Some g → (head_at (branch_view b w).level g ≡ head_at (branch_view b w).level x → ⊥)
      → head_at (branch_view b w).level g + 1 ≡ head_at (branch_view b w).level x
  pub after : (g : ℕ) → o ≡ Some g → (r : Option ℕ) → r ≡ last_empty (entries v b w) g → r ≡ last_empty (entries v b w) x

module _ (v : Bool) (b : Blocks) (w : ℕ) (is : is_branch w ≡ true) (root : IsRoot v b w) (x byte : ℕ)
    (at : head_at (branch_view b w).level x ≡ head_at (branch_view b w).level (branch_view b w).prefix + byte) (c : ℕ)
    (there : value_of word_order (branch_view b w).children byte ≡ Some c) where
  pub step : (o : Option ℕ) → Fall (entries v b c) x (down_of o) → Step v b w x o
  step o known = record {
    top = fall-top v b w is root x byte at c there o known;
    inside = fall-inside v b w is root x byte at c there o known;
    head = fall-head v b w is root x byte at c there o known;
    after = fall-after v b w is root x byte at c there o known;
  }
