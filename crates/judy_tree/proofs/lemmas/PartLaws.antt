-- For the crates above: what is known of a part of an array whose root is a branch.
use Rattle.std.proofs.Common.{◌≡◌, ℕ, ◌+◌, ◌<◌, Bool, true, false, cond, List, [], ◌∷◌, ◌++◌, Some, ap, ◌∙◌, refl, arith}
use Rattle.std.specs.Ordering.{eq_by_cmp}
use Rattle.std.proofs.lemmas.Option.{none-some}
use Rattle.judy_arena.specs.Blocks.{Blocks}
use Rattle.judy_arena.specs.Frame.{holds}
use Rattle.judy_arena.proofs.lemmas.FrameLaws.{in-left, in-right}
use Rattle.judy_model.specs.Contents.{Entries, word_order, value_of}
use Rattle.judy_model.proofs.lemmas.EntryLemmas.{same_Some}
use Rattle.judy_branch.specs.Branch.{branch_view}
use Rattle.judy_tree.specs.Nodes.{head_at, is_branch, joined, IsKid, depth}
use Rattle.judy_tree.specs.Parts.{parts, root_number}
use Rattle.judy_tree.specs.Root.{entries, numbers, IsRoot}
use Rattle.judy_tree.proofs.Nodes.{depth-branch}
use Rattle.judy_tree.proofs.lemmas.BranchLaws.{IsPlace}
use Rattle.judy_tree.proofs.lemmas.Finds.{find-in}
use Rattle.judy_tree.proofs.lemmas.Joins.{kid, each-found}
use Rattle.judy_tree.proofs.lemmas.Trees.{Top, root-top}

in_parts : (f : ℕ → List ℕ) (q x c : ℕ) (cs : Entries ℕ) → value_of word_order cs x ≡ Some c → holds q (f c) ≡ true → holds q (joined f cs) ≡ true
in_parts f q x c [] at h = absurd (none-some _ at)
in_parts f q x c (k ∷ cs) at h =
    elim (eq_by_cmp word_order x k.0) as (λ t. eq_by_cmp word_order x k.0 ≡ t → cond t (Some k.1) (value_of word_order cs x) ≡ Some c
    → holds q (f k.1 ++ joined f cs) ≡ true) [
      | true ↦ λ e i. in-left q (f k.1) (joined f cs) (ap (λ z. holds q (f z)) (same_Some i) ∙ h)
      | false ↦ λ e i. in-right q (f k.1) (joined f cs) (in_parts f q x c cs i h)
    ] refl at

module _ (v : Bool) (a : Blocks) (w : ℕ) (is : is_branch w ≡ true) (root : IsRoot v a w) (x c : ℕ) (at : value_of word_order (parts a w) x ≡ Some c) where
  top : Top v a w
  top = root-top v a w is root

  below : IsKid (branch_view a w).level (head_at (branch_view a w).level (branch_view a w).prefix + x) (IsRoot v a) (entries v a) (depth a) c
  below = each-found (λ k. IsKid (branch_view a w).level (head_at (branch_view a w).level (branch_view a w).prefix + k.0) (IsRoot v a)
      (entries v a) (depth a) k.1) x c (parts a w) top.over.kids at

  -- it is an array
  pub part-root : IsRoot v a c
  part-root = below.sound

  -- its root chooses by a later byte
  pub part-deeper : depth a w < depth a c
  part-deeper = let d = depth-branch a w is in let l = below.deeper in omega (arith, d, l)

  pub part-byte : x < 256
  part-byte = (each-found IsPlace x c (parts a w) top.view.places at).byte

  -- what is in it is in the array
  pub part-found : (k u : ℕ) → value_of word_order (entries v a c) k ≡ Some u → value_of word_order (entries v a w) k ≡ Some u
  part-found k u h =
      find-in v a w k is root x
      (each-found (λ e. head_at (branch_view a w).level e.0 ≡ head_at (branch_view a w).level (branch_view a w).prefix + x) k u
      (entries v a c) below.heads h)
      ∙ ap (λ o. value_of word_order (kid (entries v a) o) k) at ∙ h

  -- its blocks are the array's
  pub part-blocks : (q : ℕ) → holds q (numbers a c) ≡ true → holds q (numbers a w) ≡ true
  part-blocks q h = ap (holds q) top.blocks ∙ in-right q (root_number w ∷ []) (joined (numbers a) (parts a w))
      (in_parts (numbers a) q x c (parts a w) at h)
