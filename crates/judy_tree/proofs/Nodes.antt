-- Nodes: what a leaf and a branch spell, whatever bound there is on the levels, and what keeps a
-- node as it is.
use Rattle.std.proofs.Common.{◌≡◌, ℕ, zero, suc, ◌+◌, ◌<◌, ◌≤◌, Bool, true, false, cond, ◌||◌, ◌==◌, List, []}
use Rattle.std.proofs.Common.{◌∷◌, length, ap, sym, ◌∙◌, refl, subst, arith}
use Rattle.std.proofs.lemmas.Bool.Decides.{nat_tests}
use Rattle.std.specs.Bool.{MatchBool}
use Rattle.std.proofs.Math.Bool.{or-true}
use Rattle.judy_arena.specs.Blocks.{Blocks, block}
use Rattle.judy_arena.specs.Frame.{holds}
use Rattle.judy_arena.specs.Totals.{are_distinct}
use Rattle.judy_arena.proofs.lemmas.FrameLaws.{holds-append}
use Rattle.judy_model.specs.Contents.{Entries}
use Rattle.judy_tree.specs.Each.{Each}
use Rattle.judy_leaf.specs.Leaf.{IsLeaf, leaf_entries, leaf_numbers}
use Rattle.judy_branch.specs.Branch.{IsBranch, View, branch_view, branch_number}
use Rattle.judy_tree.specs.Nodes.{head_at, is_branch, joined, IsKid, IsOver, depth, content_at, numbers_at, IsNodeAt}
use Rattle.judy_tree.proofs.LeafLaws.{leaf-kept}
use Rattle.judy_tree.proofs.lemmas.BranchLaws.{branch-kept, branch-sound}
use Rattle.judy_tree.proofs.lemmas.Joins.{joined-same, each-weaker, each-both}

-- the cases, at a bound
pub content-leaf : (v : Bool) (r : ℕ) (b : Blocks) (w : ℕ) → is_branch w ≡ false → content_at v r b w ≡ leaf_entries v b w
unfolding content_at
content-leaf v zero b w e = refl
content-leaf v (suc r) b w e = ap (λ t. cond t (joined (content_at v r b) (branch_view b w).children) (leaf_entries v b w)) e

pub content-branch : (v : Bool) (r : ℕ) (b : Blocks) (w : ℕ) → is_branch w ≡ true → content_at v (suc r) b w ≡ joined
    (content_at v r b) (branch_view b w).children
unfolding content_at
content-branch v r b w e = ap (λ t. cond t (joined (content_at v r b) (branch_view b w).children) (leaf_entries v b w)) e

pub numbers-leaf : (r : ℕ) (b : Blocks) (w : ℕ) → is_branch w ≡ false → numbers_at r b w ≡ leaf_numbers b w
unfolding numbers_at
numbers-leaf zero b w e = refl
numbers-leaf (suc r) b w e = ap (λ t. cond t (branch_number w ∷ joined (numbers_at r b) (branch_view b w).children) (leaf_numbers b w)) e

pub numbers-branch : (r : ℕ) (b : Blocks) (w : ℕ) → is_branch w ≡ true → numbers_at (suc r) b w ≡ branch_number w ∷ joined
    (numbers_at r b) (branch_view b w).children
unfolding numbers_at
numbers-branch r b w e = ap (λ t. cond t (branch_number w ∷ joined (numbers_at r b) (branch_view b w).children) (leaf_numbers b w)) e

pub depth-leaf : (b : Blocks) (w : ℕ) → is_branch w ≡ false → depth b w ≡ 8
unfolding depth
depth-leaf b w e = ap (λ t. cond t (branch_view b w).level 8) e

pub depth-branch : (b : Blocks) (w : ℕ) → is_branch w ≡ true → depth b w ≡ (branch_view b w).level
unfolding depth
depth-branch b w e = ap (λ t. cond t (branch_view b w).level 8) e

-- a branch, over nodes at a bound
pub BranchAt : Bool → ℕ → Blocks → ℕ → Type 0
BranchAt v r b w = IsBranch b w × IsOver (branch_view b w) (branch_number w) (IsNodeAt v r b) (content_at v r b) (numbers_at r b) (depth b)

pub node-leaf : (v : Bool) (r : ℕ) (b : Blocks) (w : ℕ) → is_branch w ≡ false → IsNodeAt v r b w → IsLeaf v b w
unfolding IsNodeAt
node-leaf v zero b w e h = h.1
node-leaf v (suc r) b w e h =
    subst (λ t. MatchBool t (IsBranch b w × IsOver (branch_view b w) (branch_number w) (IsNodeAt v r b) (content_at v r b)
    (numbers_at r b) (depth b)) (IsLeaf v b w)) e h

pub leaf-node : (v : Bool) (r : ℕ) (b : Blocks) (w : ℕ) → is_branch w ≡ false → IsLeaf v b w → IsNodeAt v r b w
unfolding IsNodeAt
leaf-node v zero b w e h = (e, h)
leaf-node v (suc r) b w e h =
    subst (λ t. MatchBool t (IsBranch b w × IsOver (branch_view b w) (branch_number w) (IsNodeAt v r b) (content_at v r b)
    (numbers_at r b) (depth b)) (IsLeaf v b w)) (sym e) h

pub node-branch : (v : Bool) (r : ℕ) (b : Blocks) (w : ℕ) → is_branch w ≡ true → IsNodeAt v (suc r) b w → BranchAt v r b w
unfolding IsNodeAt BranchAt
node-branch v r b w e h =
    subst (λ t. MatchBool t (IsBranch b w × IsOver (branch_view b w) (branch_number w) (IsNodeAt v r b) (content_at v r b)
    (numbers_at r b) (depth b)) (IsLeaf v b w)) e h

pub branch-node : (v : Bool) (r : ℕ) (b : Blocks) (w : ℕ) → is_branch w ≡ true → BranchAt v r b w → IsNodeAt v (suc r) b w
unfolding IsNodeAt BranchAt
branch-node v r b w e h =
    subst (λ t. MatchBool t (IsBranch b w × IsOver (branch_view b w) (branch_number w) (IsNodeAt v r b) (content_at v r b)
    (numbers_at r b) (depth b)) (IsLeaf v b w)) (sym e) h

pub branch-of : (v : Bool) (r : ℕ) (b : Blocks) (w : ℕ) → BranchAt v r b w → IsBranch b w
unfolding BranchAt
branch-of v r b w h = h.0

pub over-of : (v : Bool) (r : ℕ) (b : Blocks) (w : ℕ) → BranchAt v r b w → IsOver (branch_view b w) (branch_number w)
    (IsNodeAt v r b) (content_at v r b) (numbers_at r b) (depth b)
unfolding BranchAt
over-of v r b w h = h.1

pub branch-at : (v : Bool) (r : ℕ) (b : Blocks) (w : ℕ) → IsBranch b w → IsOver (branch_view b w) (branch_number w)
    (IsNodeAt v r b) (content_at v r b) (numbers_at r b) (depth b) → BranchAt v r b w
unfolding BranchAt
branch-at v r b w h k = (h, k)

-- a node that is the same by another bound, in other blocks
pub record Alike (v : Bool) (r s : ℕ) (a b : Blocks) (w : ℕ) : Type 0 where
  pub node : IsNodeAt v s b w
  pub content : content_at v s b w ≡ content_at v r a w
  pub numbers : numbers_at s b w ≡ numbers_at r a w
  pub deep : depth b w ≡ depth a w

-- what is known of one child in two readings
pub record Same (S : ℕ → Type 0) (c c' : ℕ → Entries ℕ) (n n' : ℕ → List ℕ) (d d' : ℕ → ℕ) (w : ℕ) : Type 0 where
  pub sound : S w
  pub content : c' w ≡ c w
  pub numbers : n' w ≡ n w
  pub deep : d' w ≡ d w

-- a branch stays one over children that are as they were
pub over-along : (t : View) (own : ℕ) (S S' : ℕ → Type 0) (c c' : ℕ → Entries ℕ) (n n' : ℕ → List ℕ) (d d' : ℕ → ℕ) → IsOver t own
    S c n d → Each (λ k. Same S' c c' n n' d d' k.1) t.children → IsOver t own S' c' n' d'
over-along t own S S' c c' n n' d d' h same = record {
  kids = each-both (λ k. IsKid t.level (head_at t.level t.prefix + k.0) S c d k.1) (λ k. Same S' c c' n n' d d' k.1)
      (λ k. IsKid t.level (head_at t.level t.prefix + k.0) S' c' d' k.1) t.children
      (λ k i s. record {
        sound = s.sound;
        deeper = subst (λ x. t.level < x) (sym s.deep) i.deeper;
        filled = subst (λ x. 0 < length x) (sym s.content) i.filled;
        heads = subst (Each (λ e. head_at t.level e.0 ≡ head_at t.level t.prefix + k.0)) (sym s.content) i.heads;
      }) h.kids same;
  once = ap (λ l. are_distinct (own ∷ l))
      (joined-same n' n t.children (each-weaker (λ k. Same S' c c' n n' d d' k.1) (λ k. n' k.1 ≡ n k.1) t.children
      (λ k s. s.numbers) same)) ∙ h.once;
  population = h.population
      ∙ ap length
      (sym (joined-same c' c t.children (each-weaker (λ k. Same S' c c' n n' d d' k.1) (λ k. c' k.1 ≡ c k.1) t.children
      (λ k s. s.content) same)));
}

pub own_first : (n : ℕ) (ns : List ℕ) → holds n (n ∷ ns) ≡ true
own_first n ns = let e : (n == n) ≡ true = itself n in ap (λ t. t || holds n ns) e
  where
    itself : (n : ℕ) → (n == n) ≡ true
    itself n = grind (arith, nat_tests)

-- what holds of the numbers of a join holds of those of each child
pub each-used : (P Q : ℕ → Type 0) (S : ℕ → Type 0) (n : ℕ → List ℕ) (cs : Entries ℕ)
    → ((q : ℕ) → holds q (joined n cs) ≡ true → S q) → ((c : ℕ) → P c → ((q : ℕ) → holds q (n c) ≡ true → S q) → Q c)
    → Each (λ k. P k.1) cs → Each (λ k. Q k.1) cs
each-used P Q S n [] all f h = tt
each-used P Q S n (k ∷ cs) all f h = (
  f k.1 h.0 (λ q i. all q (holds-append q (n k.1) (joined n cs) ∙ ap (λ t. t || holds q (joined n cs)) i)),
  each-used P Q S n cs (λ q i. all q (holds-append q (n k.1) (joined n cs) ∙ ap (λ t. holds q (n k.1) || t) i ∙ or-true (holds q (n k.1)))) f h.1,
)

alike-leaf : (v : Bool) (r s : ℕ) (a b : Blocks) (w : ℕ) → is_branch w ≡ false → IsNodeAt v r a w
    → ((q : ℕ) → holds q (numbers_at r a w) ≡ true → block b q ≡ block a q) → Alike v r s a b w
alike-leaf v r s a b w e node same =
    let k = leaf-kept v a b w (node-leaf v r a w e node) (λ q h. same q (ap (holds q) (numbers-leaf r a w e) ∙ h)) in
    record {
      node = leaf-node v s b w e k.leaf;
      content = content-leaf v s b w e ∙ k.entries ∙ sym (content-leaf v r a w e);
      numbers = numbers-leaf s b w e ∙ k.numbers ∙ sym (numbers-leaf r a w e);
      deep = depth-leaf b w e ∙ sym (depth-leaf a w e);
    }

alike-branch : (v : Bool) (r s : ℕ) (a b : Blocks) (w : ℕ) → is_branch w ≡ true → BranchAt v r a w → block b (branch_number w)
    ≡ block a (branch_number w) → Each (λ k. Alike v r s a b k.1) (branch_view a w).children → Alike v (suc r) (suc s) a b w
alike-branch v r s a b w e node own kids =
    let t = branch_view a w in
    let kept = branch-kept a b w (branch-of v r a w node) own in
    let over = over-along t (branch_number w) (IsNodeAt v r a) (IsNodeAt v s b) (content_at v r a) (content_at v s b)
    (numbers_at r a) (numbers_at s b) (depth a) (depth b) (over-of v r a w node)
    (each-weaker (λ k. Alike v r s a b k.1) (λ k. Same (IsNodeAt v s b) (content_at v r a) (content_at v s b) (numbers_at r a)
    (numbers_at s b) (depth a) (depth b) k.1) t.children
    (λ k i. record { sound = i.node; content = i.content; numbers = i.numbers; deep = i.deep }) kids) in
    record {
      node = branch-node v s b w e
          (branch-at v s b w kept.branch
          (subst (λ x. IsOver x (branch_number w) (IsNodeAt v s b) (content_at v s b) (numbers_at s b) (depth b)) (sym kept.view) over));
      content = content-branch v s b w e ∙ ap (λ x. joined (content_at v s b) x.children) kept.view
          ∙ joined-same (content_at v s b) (content_at v r a) t.children
          (each-weaker (λ k. Alike v r s a b k.1) (λ k. content_at v s b k.1 ≡ content_at v r a k.1) t.children
          (λ k i. i.content) kids) ∙ sym (content-branch v r a w e);
      numbers = numbers-branch s b w e ∙ ap (λ x. branch_number w ∷ joined (numbers_at s b) x.children) kept.view
          ∙ ap (λ l. branch_number w ∷ l) (joined-same (numbers_at s b) (numbers_at r a) t.children
          (each-weaker (λ k. Alike v r s a b k.1) (λ k. numbers_at s b k.1 ≡ numbers_at r a k.1) t.children (λ k i. i.numbers) kids))
          ∙ sym (numbers-branch r a w e);
      deep = depth-branch b w e ∙ ap (λ x. x.level) kept.view ∙ sym (depth-branch a w e);
    }

low_level : (v : Bool) (r : ℕ) (b : Blocks) (w : ℕ) → BranchAt v r b w → (branch_view b w).level ≤ 6
low_level v r b w h = (branch-sound b w (branch-of v r b w h)).level

pub leaf_at_zero : (v : Bool) (b : Blocks) (w : ℕ) → IsNodeAt v zero b w → is_branch w ≡ false
unfolding IsNodeAt
leaf_at_zero v b w h = h.0

-- THE lemma: a node is the same by any bound that leaves room for its own level, in all blocks
-- where its own are the same
pub alike : (v : Bool) (r s : ℕ) (a b : Blocks) (w : ℕ) → 8 ≤ depth a w + s → IsNodeAt v r a w
    → ((q : ℕ) → holds q (numbers_at r a w) ≡ true → block b q ≡ block a q) → Alike v r s a b w
alike v zero s a b w h node same = alike-leaf v zero s a b w (leaf_at_zero v a w node) node same
alike v (suc r) zero a b w h node same =
    elim (is_branch w) as (λ t. is_branch w ≡ t → Alike v (suc r) zero a b w) [
      | true ↦ λ e. let l = low_level v r a w (node-branch v r a w e node) in absurd (omega (arith, depth-branch a w e))
      | false ↦ λ e. alike-leaf v (suc r) zero a b w e node same
    ] refl
alike v (suc r) (suc s) a b w h node same =
    elim (is_branch w) as (λ t. is_branch w ≡ t → Alike v (suc r) (suc s) a b w) [
      | true ↦ λ e.
          let t = branch_view a w in
          let at = node-branch v r a w e node in
          let d = depth-branch a w e in
          let ns : List ℕ = joined (numbers_at r a) t.children in
          let all : (q : ℕ) → holds q (branch_number w ∷ ns) ≡ true → block b q ≡ block a q = λ q i. same q (ap (holds q) (numbers-branch r a w e) ∙ i) in
          alike-branch v r s a b w e at (all (branch_number w) (own_first (branch_number w) ns))
          (each-used (λ c. IsNodeAt v r a c × (8 ≤ depth a c + s)) (Alike v r s a b) (λ q. block b q ≡ block a q) (numbers_at r a) t.children
          (λ q i. all q (ap (λ u. (q == branch_number w) || u) i ∙ or-true (q == branch_number w)))
          (λ c p i. alike v r s a b c p.1 p.0 i)
          (each-weaker (λ k. IsKid t.level (head_at t.level t.prefix + k.0) (IsNodeAt v r a) (content_at v r a) (depth a) k.1)
          (λ k. IsNodeAt v r a k.1 × (8 ≤ depth a k.1 + s)) t.children
          (λ k i. (i.sound, let dd = i.deeper in omega arith)) (over-of v r a w at).kids))
      | false ↦ λ e. alike-leaf v (suc r) (suc s) a b w e node same
    ] refl
