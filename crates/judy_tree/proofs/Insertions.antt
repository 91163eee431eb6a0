-- The steps of an insertion below a branch, at the child of the key's byte.
use Rattle.std.proofs.Common.{◌≡◌, ◌≢◌, ℕ, ◌+◌, ◌<◌, ◌≤◌, Bool, true, false, cond, length, subst, Some, is_some, ap, sym, ◌∙◌, refl, [], ◌∷◌}
use Rattle.judy_arena.specs.Blocks.{Blocks, ArenaState}
use Rattle.judy_arena.specs.Frame.{Frame}
use Rattle.judy_model.specs.Contents.{word_order, value_of, has_key}
use Rattle.judy_branch.specs.Branch.{IsBranchOf, branch_view, branch_number, with_child}
use Rattle.judy_tree.specs.Nodes.{head_at, is_branch}
use Rattle.judy_tree.specs.Root.{IsRoot, entries, numbers}
use Rattle.judy_tree.specs.Calls.{NodeGrows}
use Rattle.judy_refs.specs.References.{kind_of}
use Rattle.judy_leaf.specs.Leaf.{IsLeaf, CannotTake, leaf_entries}
use Rattle.judy_tree.specs.Split.{MustSplit}
use Rattle.judy_tree.specs.Changes.{Puts}
use Rattle.judy_tree.proofs.lemmas.RootLaws.{came, stays}
use Rattle.judy_tree.proofs.lemmas.Unchanged.{present-same}
use Rattle.judy_tree.proofs.LeafLaws.{cannot-share}
use Rattle.judy_tree.proofs.lemmas.Trees.{root-leaf, leaf-content, root-words}
use Rattle.judy_tree.proofs.Forks.{grows}
use Rattle.judy_tree.proofs.Splits.{cannot-some}
use Rattle.judy_tree.proofs.Taking.{not-few}
use Rattle.judy_tree.proofs.lemmas.BranchLaws.{Kept as BranchKept}
use Rattle.judy_tree.proofs.Steps.{child-frame, found-below, grew, own-kept, some-grown}

-- ---- below a branch, at the child of the key's byte
module _ (v : Bool) (a m : ArenaState) (w byte child key value : ℕ) (is : is_branch w ≡ true) (node : IsRoot v a.blocks w)
    (found : value_of word_order (branch_view a.blocks w).children byte ≡ Some child) where
  module _ (x : ℕ) (grown : NodeGrows v a child m x key value) where
    -- the branch's own block is still as it was
    pub branch-still : BranchKept a.blocks m.blocks w
    branch-still = own-kept v a.blocks w byte is node m.blocks (numbers m.blocks x) (child-frame a.blocks m.blocks _ child _ found grown.array.frame)

    pub child-some : x ≢ 0
    child-some = some-grown v a m child x key value grown

  module _ (at : head_at (branch_view a.blocks w).level key ≡ head_at (branch_view a.blocks w).level (branch_view a.blocks w).prefix + byte) where
    pub below : value_of word_order (entries v a.blocks w) key ≡ value_of word_order (entries v a.blocks child) key
    below = found-below v a.blocks w byte child key is node found at

    -- the branch says that it has one key more
    pub adds-below : (x : ℕ) → has_key word_order (entries v a.blocks child) key ≡ false → NodeGrows v a child m x key value
        → (d : ArenaState) (keys : ℕ) → keys ≡ (branch_view a.blocks w).population
        → IsBranchOf d.blocks w (with_child (branch_view m.blocks w) byte x (keys + 1))
        → Frame m.blocks d.blocks (branch_number w ∷ []) (branch_number w ∷ []) → d.refusals ≡ m.refusals
        → (has_key word_order (entries v a.blocks w) key ≡ false) × NodeGrows v a w d w key value
    adds-below x new grown d keys pop set second n =
        let absent = ap is_some below ∙ new in (
          absent,
          grows v a d w w key value (grew v a.blocks m.blocks d.blocks w byte child x key value keys is node found at absent pop
              grown.array.root grown.array.content grown.array.frame grown.deep set.branch set.view second) (n ∙ grown.refusals),
        )

-- ---- into a leaf that cannot take the key; a call before it changed no block
module _ (v : Bool) (a m : Blocks) (w key level : ℕ) (is : is_branch w ≡ false) (same : m ≡ a) where
  pub leaf-as-was : IsRoot v a w → IsLeaf v m w
  leaf-as-was root = subst (λ z. IsLeaf v z w) (sym same) (root-leaf v a w is root)

  pub leaf-some : CannotTake (kind_of w) (leaf_entries v a w) key → 0 < length (entries v m w)
  leaf-some cannot = subst (λ l. 0 < length l) (sym (ap (λ z. entries v z w) same ∙ leaf-content v a w is))
      (cannot-some (leaf_entries v a w) key (cannot-share (leaf_entries v a w) key cannot.0))

  module _ (must : MustSplit v m w key level) where
    pub leaf-full : length (entries v a w) ≡ 31
    leaf-full = ap length (leaf-content v a w is) ∙ ap (λ z. length (leaf_entries v z w)) (sym same) ∙ must.full

    pub leaf-not-few : length (entries v a w) + cond {A = ℕ} (is_branch w) 0 1 ≤ 31 → ⊥
    leaf-not-few = not-few (length (entries v a w)) (is_branch w) is leaf-full

-- ---- at the root of an array
module _ (v : Bool) (old new : ArenaState) (w key value : ℕ) (root : IsRoot v old.blocks w) where
  pub root-puts : (x : ℕ) → has_key word_order (entries v old.blocks w) key ≡ false → NodeGrows v old w new x key value
      → Puts v old w key value true new x
  root-puts x absent grown = came v old new w x key value absent grown

  pub root-present : (y : ℕ) → value_of word_order (entries v old.blocks w) key ≡ Some y → new.blocks ≡ old.blocks → Puts v old w key value true new w
  root-present y found same = stays v old new w _ same root (present-same (entries v old.blocks w) key y value (root-words v old.blocks w root) found)

  pub root-refused : new.blocks ≡ old.blocks → Puts v old w key value false new w
  root-refused same = stays v old new w _ same root refl
