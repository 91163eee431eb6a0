-- Where an entry is in an array.
--     IsCursor v b w x c      c is the cursor of the word x, which is present in the array at w
--     AreBetween v b w branch the results next to the words below each child of the branch are those of
--                             that child, or, if it has none, those of the child beside it
use Rattle.std.specs.Prelude.{◌≡◌, ◌≢◌, ℕ, Bool, true, false, Some}
use Rattle.judy_arena.specs.Blocks.{Blocks}
use Rattle.judy_model.specs.Contents.{word_order, has_key, value_of}
use Rattle.judy_leaf.specs.Leaf.{IsLeaf}
use Rattle.judy_branch.specs.Branch.{branch_view}
use Rattle.judy_tree.specs.Nodes.{is_branch}
use Rattle.judy_tree.specs.Root.{entries}
use Rattle.judy_query.specs.Fingers.{IsBetween}
use Rattle.judy_query.specs.declared.cursor.Cursor.{Cursor}

-- each child of the branch has the words below it, with their neighbours, or the child beside it has these
abbrev pub AreBetween : Bool → Blocks → ℕ → ℕ → Type 0
AreBetween v b w branch = (byte c y z : ℕ) → value_of word_order (branch_view b branch).children byte ≡ Some c
    → value_of word_order (entries v b c) y ≡ Some z → IsBetween v b w y branch c

-- The leaf has the word. The neighbours of each word of the leaf are there or beside, and so are those of the
-- words of the other children of the branch above. A branch 0 means that the leaf is the array itself.
pub record IsCursor (v : Bool) (b : Blocks) (w x : ℕ) (c : Cursor) : Type 0 where
  pub leaf : IsLeaf v b c.leaf
  pub low : is_branch c.leaf ≡ false
  pub here : has_key word_order (entries v b c.leaf) x ≡ true
  pub near : (y z : ℕ) → value_of word_order (entries v b c.leaf) y ≡ Some z → IsBetween v b w y c.branch c.leaf
  pub kids : c.branch ≢ 0 → AreBetween v b w c.branch
