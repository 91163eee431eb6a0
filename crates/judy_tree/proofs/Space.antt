-- How many words the blocks of an array have together: at most 12 n - 8 for n entries, where leaves
-- and branches have the sizes of their forms.
use Rattle.std.proofs.Common.{◌≡◌, ℕ, zero, suc, ◌+◌, ◌*◌, ◌<◌, ◌≤◌, Bool, true, false, [], ◌∷◌, length, ap, sym, ◌∙◌, refl, subst, arith, length-append}
use Rattle.judy_arena.specs.Blocks.{Blocks, words_of}
use Rattle.judy_arena.specs.Totals.{words_over}
use Rattle.judy_model.specs.Contents.{Entries}
use Rattle.judy_tree.specs.Each.{Each}
use Rattle.judy_branch.specs.Branch.{branch_view, branch_number}
use Rattle.judy_tree.specs.Nodes.{head_at, is_branch, joined, IsKid, depth, content_at, numbers_at, IsNodeAt}
use Rattle.judy_tree.specs.Root.{entries, numbers, IsRoot}
use Rattle.judy_tree.proofs.lemmas.Joins.{each-weaker}
use Rattle.std.proofs.Common.{◌||◌, ◌==◌}
use Rattle.std.proofs.lemmas.Bool.Decides.{nat_tests}
use Rattle.judy_arena.specs.Frame.{holds}
use Rattle.judy_arena.proofs.lemmas.BlockLaws.{words_over-append, words_over-cons}
use Rattle.judy_tree.proofs.lemmas.Trees.{within-joined}
use Rattle.judy_tree.proofs.LeafLaws.{leaf-space, leaf-least}
use Rattle.judy_tree.proofs.lemmas.BranchLaws.{branch-sound, branch-space, branch-least}
use Rattle.judy_tree.proofs.Nodes.{content-leaf, content-branch, numbers-leaf, numbers-branch, node-leaf, node-branch, branch-of, over-of, leaf_at_zero}

module _ (v : Bool) (b : Blocks) where
  -- each child saves 8 words of its bound
  over_joined : (r : ℕ) (cs : Entries ℕ) → Each (λ k. words_over b (numbers_at r b k.1) + 8 ≤ 12 * length (content_at v r b k.1))
      cs → words_over b (joined (numbers_at r b) cs) + 8 * length cs ≤ 12 * length (joined (content_at v r b) cs)
  over_joined r [] h = omega arith
  over_joined r (k ∷ cs) h =
      let n = over_joined r cs h.1 in
      let i = h.0 in
      let a = words_over-append b (numbers_at r b k.1) (joined (numbers_at r b) cs) in
      let l = length-append (content_at v r b k.1) (joined (content_at v r b) cs) in
      omega arith

  space_leaf : (r w : ℕ) → is_branch w ≡ false → IsNodeAt v r b w → 0 < length (content_at v r b w) → words_over b
      (numbers_at r b w) + 8 ≤ 12 * length (content_at v r b w)
  space_leaf r w e node some =
      let s = leaf-space v b w (node-leaf v r b w e node) in
      let c = ap length (content-leaf v r b w e) in
      let n = ap (words_over b) (numbers-leaf r b w e) in
      omega arith

  space_at : (r w : ℕ) → IsNodeAt v r b w → 0 < length (content_at v r b w) → words_over b (numbers_at r b w) + 8 ≤ 12 * length (content_at v r b w)
  space_at zero w node some = space_leaf zero w (leaf_at_zero v b w node) node some
  space_at (suc r) w node some =
      elim (is_branch w) as (λ t. is_branch w ≡ t → words_over b (numbers_at (suc r) b w) + 8 ≤ 12 * length (content_at v (suc r) b w)) [
        | true ↦ λ e.
            let t = branch_view b w in
            let at = node-branch v r b w e node in
            let own = branch-space b w (branch-of v r b w at) in
            let two = (branch-sound b w (branch-of v r b w at)).many in
            let kids =
            over_joined r t.children
            (each-weaker (λ k. IsKid t.level (head_at t.level t.prefix + k.0) (IsNodeAt v r b) (content_at v r b) (depth b) k.1)
            (λ k. words_over b (numbers_at r b k.1) + 8 ≤ 12 * length (content_at v r b k.1)) t.children
            (λ k i. space_at r k.1 i.sound i.filled) (over-of v r b w at).kids) in
            let c = ap length (content-branch v r b w e) in
            let n : words_over b (numbers_at (suc r) b w) ≡ length (words_of b (branch_number w)) + words_over b
            (joined (numbers_at r b) t.children) = ap (words_over b) (numbers-branch r b w e) ∙ words_over-cons b
            (branch_number w) (joined (numbers_at r b) t.children) in
            omega arith
        | false ↦ λ e. space_leaf (suc r) w e node some
      ] refl

  -- at most 12 words for each entry, less 8
  pub root-space : (w : ℕ) → IsRoot v b w → 0 < length (entries v b w) → words_over b (numbers b w) + 8 ≤ 12 * length (entries v b w)
  unfolding IsRoot entries numbers
  root-space w root some = space_at 8 w root some

-- ---- each block of a node has at least 4 words

least_leaf : (v : Bool) (r : ℕ) (b : Blocks) (w q : ℕ) → is_branch w ≡ false → IsNodeAt v r b w → holds q (numbers_at r b w) ≡ true → 4 ≤ length (words_of b q)
least_leaf v r b w q e node h = leaf-least v b w q (node-leaf v r b w e node) (ap (holds q) (sym (numbers-leaf r b w e)) ∙ h)

least_at : (v : Bool) (r : ℕ) (b : Blocks) (w q : ℕ) → IsNodeAt v r b w → holds q (numbers_at r b w) ≡ true → 4 ≤ length (words_of b q)
least_at v zero b w q node h = least_leaf v zero b w q (leaf_at_zero v b w node) node h
least_at v (suc r) b w q node h =
    elim (is_branch w) as (λ t. is_branch w ≡ t → 4 ≤ length (words_of b q)) [
      | true ↦ λ e.
          let t = branch_view b w in
          let at = node-branch v r b w e node in
          either (q == branch_number w) (holds q (joined (numbers_at r b) t.children)) (ap (holds q) (sym (numbers-branch r b w e)) ∙ h)
          (λ i. subst (λ n. 4 ≤ length (words_of b n)) (sym (same q (branch_number w) i)) (branch-least b w (branch-of v r b w at)))
          (within-joined (4 ≤ length (words_of b q)) (numbers_at r b) t.children q
          (each-weaker (λ k. IsKid t.level (head_at t.level t.prefix + k.0) (IsNodeAt v r b) (content_at v r b) (depth b) k.1)
          (λ k. holds q (numbers_at r b k.1) ≡ true → 4 ≤ length (words_of b q)) t.children
          (λ k i j. least_at v r b k.1 q i.sound j) (over-of v r b w at).kids))
      | false ↦ λ e. least_leaf v (suc r) b w q e node h
    ] refl
  where
    either : {A : Type 0} (s t : Bool) → (s || t) ≡ true → (s ≡ true → A) → (t ≡ true → A) → A
    either true t h f g = f refl
    either false t h f g = g h

    same : (a c : ℕ) → (a == c) ≡ true → a ≡ c
    same a c e = grind (arith, nat_tests)

pub root-least : (v : Bool) (b : Blocks) (w q : ℕ) → IsRoot v b w → holds q (numbers b w) ≡ true → 4 ≤ length (words_of b q)
unfolding IsRoot numbers
root-least v b w q h i = least_at v 8 b w q h i
