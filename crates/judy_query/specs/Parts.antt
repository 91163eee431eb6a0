-- What a query reads in a branch.
--     head_in b w k               the bytes of a key up to the branch's level, as a number
--     own_head b w                the same of the branch's prefix
--     IsBeside v b c here whole   the child c is sound, and its result is that of the node
--     IsAfter, IsBefore b w x k   the child k of a branch is the next one after the word's byte, or
--                                 the last one before it
--     IsNear v b w x branch leaf  the node's result next to x is that of the leaf, or, if the leaf
--                                 has none, that of the child beside it
--     entries_below v b w z high  the entries of the children with bytes from z to below high
use Rattle.std.specs.Prelude.{◌≡◌, ℕ, ◌+◌, Bool, ◌&&◌, nat_le, nat_lt, filter, Option, Some, None}
use Rattle.judy_arena.specs.Blocks.{Blocks}
use Rattle.judy_model.specs.Contents.{Entries, word_order, first, last, prev}
use Rattle.judy_leaf.specs.Leaf.{IsLeaf, leaf_entries}
use Rattle.judy_branch.specs.Branch.{IsBranch, branch_view}
use Rattle.judy_tree.specs.Nodes.{head_at, joined}
use Rattle.judy_tree.specs.Root.{IsRoot, entries}

-- the bytes of a key up to the one at the branch's level
abbrev pub head_in : Blocks → ℕ → ℕ → ℕ
head_in b w k = head_at (branch_view b w).level k

-- the same for the branch's prefix
abbrev pub own_head : Blocks → ℕ → ℕ
own_head b w = head_at (branch_view b w).level (branch_view b w).prefix

-- the entries of the children with bytes from z to below high
abbrev pub entries_below : Bool → Blocks → ℕ → ℕ → ℕ → Entries ℕ
entries_below v b w z high = joined (entries v b) (filter (λ c. nat_le z c.0 && nat_lt c.0 high) (branch_view b w).children)

-- a child has the result of the whole node
pub record IsBeside (v : Bool) (b : Blocks) (c : ℕ) (here whole : Option (ℕ × ℕ)) : Type 0 where
  pub sound : IsRoot v b c
  pub same : here ≡ whole

-- the first child after a word's byte at a branch; below, the last child before it
pub record IsAfter (b : Blocks) (w x : ℕ) (k : ℕ × ℕ) : Type 0 where
  pub byte : ℕ
  pub at : head_in b w x ≡ own_head b w + byte
  pub next : first word_order (branch_view b w).children (byte + 1) ≡ Some k

pub record IsBefore (b : Blocks) (w x : ℕ) (k : ℕ × ℕ) : Type 0 where
  pub byte : ℕ
  pub at : head_in b w x ≡ own_head b w + byte
  pub next : prev word_order (branch_view b w).children byte ≡ Some k

-- where a word leads from a node: a leaf, or the empty leaf, and the branch above. The neighbour of
-- the word in the leaf is its neighbour in the node. If the leaf has none, the child beside it has
-- the neighbour
pub record IsNear (v : Bool) (b : Blocks) (w x branch leaf : ℕ) : Type 0 where
  pub sound : IsLeaf v b leaf
  pub from : (e : ℕ × ℕ) → first word_order (leaf_entries v b leaf) x ≡ Some e → first word_order (entries v b w) x ≡ Some e
  pub upto : (e : ℕ × ℕ) → last word_order (leaf_entries v b leaf) x ≡ Some e → last word_order (entries v b w) x ≡ Some e
  pub over : IsBranch b branch
  pub after : first word_order (leaf_entries v b leaf) x ≡ None → (k : ℕ × ℕ) → IsAfter b branch x k
      → IsBeside v b k.1 (first word_order (entries v b k.1) x) (first word_order (entries v b w) x)
  pub before : last word_order (leaf_entries v b leaf) x ≡ None → (k : ℕ × ℕ) → IsBefore b branch x k
      → IsBeside v b k.1 (last word_order (entries v b k.1) x) (last word_order (entries v b w) x)
