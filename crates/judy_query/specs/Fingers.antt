-- Where a word is in an array.
--     IsFinger v b w x f          f is the finger of the word x in the array at w
--     IsBetween v b w x branch c  the array's results next to x are those of its node c, or, if c has
--                                 none, those of the child of the branch beside c
use Rattle.std.specs.Prelude.{◌≡◌, ◌≢◌, ℕ, ◌+◌, ◌-◌, ◌<◌, Bool, false, Some, None}
use Rattle.judy_arena.specs.Blocks.{Blocks}
use Rattle.judy_model.specs.Contents.{word_order, value_of, first, last}
use Rattle.judy_leaf.specs.Leaf.{IsLeaf}
use Rattle.judy_branch.specs.Branch.{IsBranch}
use Rattle.judy_tree.specs.Nodes.{is_branch}
use Rattle.judy_tree.specs.Root.{entries}
use Rattle.judy_query.specs.Parts.{IsBeside, IsAfter, IsBefore}
use Rattle.judy_query.specs.declared.near.Finger.{Finger}

-- the node c, with this branch above it, has the word x. Its neighbours of x are the array's. If c
-- has none, the child beside it has the neighbour. A branch 0 means that c is the array itself
pub record IsBetween (v : Bool) (b : Blocks) (w x branch c : ℕ) : Type 0 where
  pub from : (e : ℕ × ℕ) → first word_order (entries v b c) (x + 1) ≡ Some e → first word_order (entries v b w) (x + 1) ≡ Some e
  pub upto : 0 < x → (e : ℕ × ℕ) → last word_order (entries v b c) (x - 1) ≡ Some e → last word_order (entries v b w) (x - 1) ≡ Some e
  pub whole : branch ≡ 0 → entries v b w ≡ entries v b c
  pub over : branch ≢ 0 → IsBranch b branch
  pub after : branch ≢ 0 → first word_order (entries v b c) (x + 1) ≡ None → (k : ℕ × ℕ) → IsAfter b branch x k
      → IsBeside v b k.1 (first word_order (entries v b k.1) (x + 1)) (first word_order (entries v b w) (x + 1))
  pub before : branch ≢ 0 → 0 < x → last word_order (entries v b c) (x - 1) ≡ None → (k : ℕ × ℕ) → IsBefore b branch x k
      → IsBeside v b k.1 (last word_order (entries v b k.1) (x - 1)) (last word_order (entries v b w) (x - 1))

-- the finger has the word's value; if the word is present, its leaf is where the word is
pub record IsFinger (v : Bool) (b : Blocks) (w x : ℕ) (f : Finger) : Type 0 where
  pub value : f.value ≡ value_of word_order (entries v b w) x
  pub leaf : (u : ℕ) → f.value ≡ Some u → IsLeaf v b f.leaf
  pub low : (u : ℕ) → f.value ≡ Some u → is_branch f.leaf ≡ false
  pub near : (u : ℕ) → f.value ≡ Some u → IsBetween v b w x f.branch f.leaf
