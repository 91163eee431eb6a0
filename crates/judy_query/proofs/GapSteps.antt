-- What a search for an absent word knows once a child of the branch has answered.
use Rattle.std.proofs.Common.{◌≡◌, ℕ, ◌+◌, ◌≤◌, Bool, true, Option, Some, None}
use Rattle.judy_arena.specs.Blocks.{Blocks}
use Rattle.judy_model.specs.Contents.{word_order, value_of, max_word}
use Rattle.judy_model.specs.Gaps.{first_empty}
use Rattle.judy_branch.specs.Branch.{branch_view}
use Rattle.judy_tree.specs.Nodes.{head_at, is_branch}
use Rattle.judy_tree.specs.Root.{IsRoot, entries}
use Rattle.judy_query.proofs.BranchGaps.{KidGap, gap-top, gap-inside, gap-head, gap-after}

-- the child has nothing up to the top, or the word is the branch's answer, or the search goes on from it
pub record Step (v : Bool) (b : Blocks) (w x : ℕ) (o : Option ℕ) : Type 0 where
  pub top : o ≡ None → None ≡ first_empty (entries v b w) x
  pub inside : (g : ℕ) → o ≡ Some g → head_at (branch_view b w).level g ≡ head_at (branch_view b w).level x
      → Some g ≡ first_empty (entries v b w) x
  pub head : (g : ℕ) → o ≡ Some g → (head_at (branch_view b w).level g ≡ head_at (branch_view b w).level x → ⊥)
      → head_at (branch_view b w).level g ≡ head_at (branch_view b w).level x + 1
  pub fits : (g : ℕ) → o ≡ Some g → g ≤ max_word
  pub after : (g : ℕ) → o ≡ Some g → (r : Option ℕ) → r ≡ first_empty (entries v b w) g → r ≡ first_empty (entries v b w) x

module _ (v : Bool) (b : Blocks) (w : ℕ) (is : is_branch w ≡ true) (root : IsRoot v b w) (x : ℕ) (small : x ≤ max_word) (byte : ℕ)
    (at : head_at (branch_view b w).level x ≡ head_at (branch_view b w).level (branch_view b w).prefix + byte) (c : ℕ)
    (there : value_of word_order (branch_view b w).children byte ≡ Some c) where
  pub step : (o : Option ℕ) → KidGap v b w is root x small byte at c there o → Step v b w x o
  step o known = record {
    top = gap-top v b w is root x small byte at c there o known;
    inside = gap-inside v b w is root x small byte at c there o known;
    head = gap-head v b w is root x small byte at c there o known;
    fits = known.word;
    after = gap-after v b w is root x small byte at c there o known;
  }
