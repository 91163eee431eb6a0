-- Nodes without a bound on the levels: a leaf, a branch over nodes, what keeps a node, its numbers,
-- and its entries.
use Rattle.std.proofs.Common.{◌≡◌, ℕ, zero, suc, ◌+◌, ◌≤◌, Bool, true, false, ◌||◌, ◌&&◌, ◌==◌}
use Rattle.std.proofs.Common.{List, [], ◌∷◌, ◌++◌, ap, sym, ◌∙◌, refl, subst, arith}
use Rattle.std.proofs.lemmas.Bool.Decides.{nat_tests}
use Rattle.std.specs.Prelude.{nat_le}
use Rattle.std.specs.List.{list_all}
use Rattle.std.specs.FinMap.{is_sorted}
use Rattle.std.proofs.lemmas.Bool.{false≢true as not_true, and_from}
use Rattle.judy_arena.specs.Blocks.{Blocks, block, is_live}
use Rattle.judy_arena.specs.Frame.{holds, Frame}
use Rattle.judy_arena.specs.Totals.{are_distinct}
use Rattle.judy_arena.proofs.lemmas.FrameLaws.{frame-same, frame-stays, holds-append}
use Rattle.judy_model.specs.Contents.{Entries, IsWordArray, word_order, max_word, HasWordValues}
use Rattle.judy_tree.specs.Each.{Each}
use Rattle.judy_leaf.specs.Leaf.{IsLeaf, leaf_entries, leaf_numbers}
use Rattle.judy_branch.specs.Branch.{IsBranch, branch_view, branch_number}
use Rattle.judy_tree.proofs.lemmas.BranchLaws.{IsView}
use Rattle.judy_tree.specs.Nodes.{head_at, is_branch, joined, IsKid, IsOver, depth, content_at, numbers_at, IsNodeAt}
use Rattle.judy_tree.specs.Root.{entries, numbers, IsRoot}
use Rattle.judy_tree.proofs.LeafLaws.{leaf-live, leaf-once, leaf-words, leaf-values, leaf-zeros, leaf-kind}
use Rattle.judy_tree.proofs.lemmas.BranchLaws.{branch-live, branch-kind, branch-sound}
use Rattle.judy_tree.proofs.lemmas.Heads.{head-less}
use Rattle.judy_tree.proofs.lemmas.Joins.{joined-same, each-weaker, joined-rises}
use Rattle.judy_tree.proofs.Nodes.{content-leaf, content-branch, numbers-leaf, numbers-branch, node-leaf, leaf-node}
use Rattle.judy_tree.proofs.Nodes.{node-branch, branch-node, branch-of, over-of, branch-at, Same, over-along, alike}
use Rattle.judy_tree.proofs.Nodes.{leaf_at_zero}

-- ---- a leaf

pub root-leaf : (v : Bool) (b : Blocks) (w : ℕ) → is_branch w ≡ false → IsRoot v b w → IsLeaf v b w
unfolding IsRoot
root-leaf v b w e h = node-leaf v 8 b w e h

pub leaf-root : (v : Bool) (b : Blocks) (w : ℕ) → IsLeaf v b w → IsRoot v b w
unfolding IsRoot
leaf-root v b w h = leaf-node v 8 b w (leaf-kind v b w h) h

pub leaf-content : (v : Bool) (b : Blocks) (w : ℕ) → is_branch w ≡ false → entries v b w ≡ leaf_entries v b w
unfolding entries
leaf-content v b w e = content-leaf v 8 b w e

pub leaf-blocks : (b : Blocks) (w : ℕ) → is_branch w ≡ false → numbers b w ≡ leaf_numbers b w
unfolding numbers
leaf-blocks b w e = numbers-leaf 8 b w e

-- ---- a branch

pub record Top (v : Bool) (b : Blocks) (w : ℕ) : Type 0 where
  pub branch : IsBranch b w
  pub view : IsView (branch_view b w)
  pub over : IsOver (branch_view b w) (branch_number w) (IsRoot v b) (entries v b) (numbers b) (depth b)
  pub content : entries v b w ≡ joined (entries v b) (branch_view b w).children
  pub blocks : numbers b w ≡ branch_number w ∷ joined (numbers b) (branch_view b w).children

abbrev SameAt : Bool → ℕ → ℕ → Blocks → ℕ → Type 0
SameAt v r s b w = Same (IsNodeAt v s b) (content_at v r b) (content_at v s b) (numbers_at r b) (numbers_at s b) (depth b) (depth b) w

-- another bound
rebound : (v : Bool) (r s : ℕ) (b : Blocks) (w : ℕ) → 8 ≤ depth b w + s → IsNodeAt v r b w → SameAt v r s b w
rebound v r s b w h node = let a = alike v r s b b w h node (λ q i. refl) in record { sound = a.node; content = a.content; numbers = a.numbers; deep = a.deep }

pub root-top : (v : Bool) (b : Blocks) (w : ℕ) → is_branch w ≡ true → IsRoot v b w → Top v b w
unfolding IsRoot entries numbers
root-top v b w e h =
    let t = branch_view b w in
    let at = node-branch v 7 b w e h in
    let over = over-of v 7 b w at in
    let same : Each (λ k. SameAt v 7 8 b k.1) t.children =
    each-weaker (λ k. IsKid t.level (head_at t.level t.prefix + k.0) (IsNodeAt v 7 b) (content_at v 7 b) (depth b) k.1)
    (λ k. SameAt v 7 8 b k.1) t.children (λ k i. rebound v 7 8 b k.1 (omega arith) i.sound) over.kids in
    record {
      branch = branch-of v 7 b w at;
      view = branch-sound b w (branch-of v 7 b w at);
      over = over-along t (branch_number w) (IsNodeAt v 7 b) (IsNodeAt v 8 b) (content_at v 7 b) (content_at v 8 b)
          (numbers_at 7 b) (numbers_at 8 b) (depth b) (depth b) over same;
      content = content-branch v 7 b w e ∙ sym (joined-same (content_at v 8 b) (content_at v 7 b) t.children
          (each-weaker (λ k. SameAt v 7 8 b k.1) (λ k. content_at v 8 b k.1 ≡ content_at v 7 b k.1) t.children (λ k s. s.content) same));
      blocks = numbers-branch 7 b w e ∙ ap (λ l. branch_number w ∷ l)
          (sym (joined-same (numbers_at 8 b) (numbers_at 7 b) t.children
          (each-weaker (λ k. SameAt v 7 8 b k.1) (λ k. numbers_at 8 b k.1 ≡ numbers_at 7 b k.1) t.children (λ k s. s.numbers) same)));
    }

pub record IsTopRoot (v : Bool) (b : Blocks) (w : ℕ) : Type 0 where
  pub root : IsRoot v b w
  pub top : Top v b w

pub top-root : (v : Bool) (b : Blocks) (w : ℕ) → IsBranch b w → IsOver (branch_view b w) (branch_number w) (IsRoot v b)
    (entries v b) (numbers b) (depth b) → IsTopRoot v b w
unfolding IsRoot entries numbers
top-root v b w branch over =
    let t = branch_view b w in
    let e = branch-kind b w branch in
    let same : Each (λ k. SameAt v 8 7 b k.1) t.children =
    each-weaker (λ k. IsKid t.level (head_at t.level t.prefix + k.0) (IsNodeAt v 8 b) (content_at v 8 b) (depth b) k.1) (λ k. SameAt v 8 7 b k.1) t.children
    (λ k i. rebound v 8 7 b k.1 (let d = i.deeper in omega arith) i.sound) over.kids in
    let node = branch-node v 7 b w e (branch-at v 7 b w branch
    (over-along t (branch_number w) (IsNodeAt v 8 b) (IsNodeAt v 7 b) (content_at v 8 b) (content_at v 7 b) (numbers_at 8 b)
    (numbers_at 7 b) (depth b) (depth b) over same)) in
    record { root = node; top = root-top v b w e node }

-- ---- what keeps a node

pub record Kept (v : Bool) (a b : Blocks) (w : ℕ) : Type 0 where
  pub root : IsRoot v b w
  pub content : entries v b w ≡ entries v a w
  pub blocks : numbers b w ≡ numbers a w
  pub deep : depth b w ≡ depth a w

pub root-kept : (v : Bool) (a b : Blocks) (w : ℕ) → IsRoot v a w → ((q : ℕ) → holds q (numbers a w) ≡ true → block b q ≡ block a q) → Kept v a b w
unfolding IsRoot entries numbers
root-kept v a b w h same = let k = alike v 8 8 a b w (omega arith) h same in record { root = k.node; content = k.content; blocks = k.numbers; deep = k.deep }

-- ---- its numbers

either : {A : Type 0} (s t : Bool) → (s || t) ≡ true → (s ≡ true → A) → (t ≡ true → A) → A
either true t h f g = f refl
either false t h f g = g h

-- where a number of a join stands
pub within-joined : (A : Type 0) (n : ℕ → List ℕ) (cs : Entries ℕ) (q : ℕ) → Each (λ k. holds q (n k.1) ≡ true → A) cs → holds q (joined n cs) ≡ true → A
within-joined A n [] q f h = absurd (not_true h)
within-joined A n (k ∷ cs) q f h = either (holds q (n k.1)) (holds q (joined n cs)) (sym (holds-append q (n k.1) (joined n cs))
    ∙ h) f.0 (within-joined A n cs q f.1)

same_test : (a b : ℕ) → (a == b) ≡ true → a ≡ b
same_test a b e = grind (arith, nat_tests)

live_leaf : (v : Bool) (r : ℕ) (b : Blocks) (w q : ℕ) → is_branch w ≡ false → IsNodeAt v r b w → holds q (numbers_at r b w) ≡ true → is_live b q ≡ true
live_leaf v r b w q e node h = leaf-live v b w q (node-leaf v r b w e node) (ap (holds q) (sym (numbers-leaf r b w e)) ∙ h)

live_at : (v : Bool) (r : ℕ) (b : Blocks) (w q : ℕ) → IsNodeAt v r b w → holds q (numbers_at r b w) ≡ true → is_live b q ≡ true
live_at v zero b w q node h = live_leaf v zero b w q (leaf_at_zero v b w node) node h
live_at v (suc r) b w q node h =
    elim (is_branch w) as (λ t. is_branch w ≡ t → is_live b q ≡ true) [
      | true ↦ λ e.
          let t = branch_view b w in
          let at = node-branch v r b w e node in
          either (q == branch_number w) (holds q (joined (numbers_at r b) t.children)) (ap (holds q) (sym (numbers-branch r b w e)) ∙ h)
          (λ i. ap (is_live b) (same_test q (branch_number w) i) ∙ branch-live b w (branch-of v r b w at))
          (within-joined (is_live b q ≡ true) (numbers_at r b) t.children q
          (each-weaker (λ k. IsKid t.level (head_at t.level t.prefix + k.0) (IsNodeAt v r b) (content_at v r b) (depth b) k.1)
          (λ k. holds q (numbers_at r b k.1) ≡ true → is_live b q ≡ true) t.children
          (λ k i j. live_at v r b k.1 q i.sound j) (over-of v r b w at).kids))
      | false ↦ λ e. live_leaf v (suc r) b w q e node h
    ] refl

pub numbers-live : (v : Bool) (b : Blocks) (w q : ℕ) → IsRoot v b w → holds q (numbers b w) ≡ true → is_live b q ≡ true
unfolding IsRoot numbers
numbers-live v b w q h k = live_at v 8 b w q h k

pub numbers-once : (v : Bool) (b : Blocks) (w : ℕ) → IsRoot v b w → are_distinct (numbers b w) ≡ true
numbers-once v b w h =
    elim (is_branch w) as (λ t. is_branch w ≡ t → are_distinct (numbers b w) ≡ true) [
      | true ↦ λ e. let t = root-top v b w e h in ap are_distinct t.blocks ∙ t.over.once
      | false ↦ λ e. ap are_distinct (leaf-blocks b w e) ∙ leaf-once v b w (root-leaf v b w e h)
    ] refl

-- nothing changes, and the numbers stay
pub root-stays : (v : Bool) (b : Blocks) (w : ℕ) → IsRoot v b w → Frame b b (numbers b w) (numbers b w)
root-stays v b w h = frame-same b (numbers b w) (λ q k. numbers-live v b w q h k)

-- another array stays over a frame that has none of its numbers, and none of its numbers is new
pub record Framed (v : Bool) (a b : Blocks) (new : List ℕ) (w : ℕ) : Type 0 where
  pub kept : Kept v a b w
  pub apart : (q : ℕ) → holds q (numbers a w) ≡ true → holds q new ≡ false

pub root-framed : (v : Bool) (a b : Blocks) (old new : List ℕ) (w : ℕ) → Frame a b old new → IsRoot v a w
    → ((q : ℕ) → holds q (numbers a w) ≡ true → holds q old ≡ false) → Framed v a b new w
root-framed v a b old new w f root apart =
    let stays = λ (q : ℕ) (h : holds q (numbers a w) ≡ true). frame-stays a b old new q f (numbers-live v a w q root h) (apart q h) in
    record { kept = root-kept v a b w root (λ q h. (stays q h).1); apart = λ q h. (stays q h).0 }

-- ---- its entries

-- a property of a node's entries: it holds if it holds of the entries of leaves, of no entries, and
-- of the join of two lists that have it
has_joined : (P : Entries ℕ → Type 0) → P [] → ((xs ys : Entries ℕ) → P xs → P ys → P (xs ++ ys)) → (f : ℕ → Entries ℕ)
    (cs : Entries ℕ) → Each (λ k. P (f k.1)) cs → P (joined f cs)
has_joined P none both f [] h = none
has_joined P none both f (k ∷ cs) h = both (f k.1) (joined f cs) h.0 (has_joined P none both f cs h.1)

has_at : (P : Entries ℕ → Type 0) (v : Bool) (b : Blocks) → P [] → ((xs ys : Entries ℕ) → P xs → P ys → P (xs ++ ys))
    → ((w : ℕ) → IsLeaf v b w → P (leaf_entries v b w)) → (r w : ℕ) → IsNodeAt v r b w → P (content_at v r b w)
has_at P v b none both leaf zero w node = subst P (sym (content-leaf v zero b w (leaf_at_zero v b w node)))
    (leaf w (node-leaf v zero b w (leaf_at_zero v b w node) node))
has_at P v b none both leaf (suc r) w node =
    elim (is_branch w) as (λ t. is_branch w ≡ t → P (content_at v (suc r) b w)) [
      | true ↦ λ e. let t = branch_view b w in subst P (sym (content-branch v r b w e)) (has_joined P none both (content_at v r b) t.children
          (each-weaker (λ k. IsKid t.level (head_at t.level t.prefix + k.0) (IsNodeAt v r b) (content_at v r b) (depth b) k.1)
          (λ k. P (content_at v r b k.1)) t.children
          (λ k i. has_at P v b none both leaf r k.1 i.sound) (over-of v r b w (node-branch v r b w e node)).kids))
      | false ↦ λ e. subst P (sym (content-leaf v (suc r) b w e)) (leaf w (node-leaf v (suc r) b w e node))
    ] refl

root-has : (P : Entries ℕ → Type 0) (v : Bool) (b : Blocks) → P [] → ((xs ys : Entries ℕ) → P xs → P ys → P (xs ++ ys))
    → ((w : ℕ) → IsLeaf v b w → P (leaf_entries v b w)) → (w : ℕ) → IsRoot v b w → P (entries v b w)
unfolding IsRoot entries
root-has P v b none both leaf w h = has_at P v b none both leaf 8 w h

all_append : (p : ℕ × ℕ → Bool) (xs ys : Entries ℕ) → list_all p xs ≡ true → list_all p ys ≡ true → list_all p (xs ++ ys) ≡ true
all_append p [] ys h k = k
all_append p (x ∷ xs) ys h k = and_from (p x) (list_all p (xs ++ ys)) (first (p x) (list_all p xs) h) (all_append p xs ys (second (p x) (list_all p xs) h) k)
  where
    first : (a b : Bool) → (a && b) ≡ true → a ≡ true
    first true b h = refl
    first false b h = h

    second : (a b : Bool) → (a && b) ≡ true → b ≡ true
    second true b h = h
    second false b h = absurd (not_true h)

pub root-values : (v : Bool) (b : Blocks) (w : ℕ) → IsRoot v b w → HasWordValues (entries v b w)
root-values v b w h = root-has HasWordValues v b refl (all_append (λ e. nat_le e.1 max_word)) (leaf-values v b) w h

pub root-zeros : (b : Blocks) (w : ℕ) → IsRoot false b w → list_all (λ e. e.1 == 0) (entries false b w) ≡ true
root-zeros b w h = root-has (λ l. list_all (λ e. e.1 == 0) l ≡ true) false b refl (all_append (λ e. e.1 == 0)) (leaf-zeros b) w h

root-small : (v : Bool) (b : Blocks) (w : ℕ) → IsRoot v b w → list_all (λ e. nat_le e.0 max_word) (entries v b w) ≡ true
root-small v b w h = root-has (λ l. list_all (λ e. nat_le e.0 max_word) l ≡ true) v b refl (all_append (λ e. nat_le e.0 max_word))
    (λ w i. (leaf-words v b w i).1) w h

rises_leaf : (v : Bool) (r : ℕ) (b : Blocks) (w : ℕ) → is_branch w ≡ false → IsNodeAt v r b w → is_sorted word_order (content_at v r b w) ≡ true
rises_leaf v r b w e node = ap (is_sorted word_order) (content-leaf v r b w e) ∙ (leaf-words v b w (node-leaf v r b w e node)).0

rises_at : (v : Bool) (r : ℕ) (b : Blocks) (w : ℕ) → IsNodeAt v r b w → is_sorted word_order (content_at v r b w) ≡ true
rises_at v zero b w node = rises_leaf v zero b w (leaf_at_zero v b w node) node
rises_at v (suc r) b w node =
    elim (is_branch w) as (λ t. is_branch w ≡ t → is_sorted word_order (content_at v (suc r) b w) ≡ true) [
      | true ↦ λ e.
          let t = branch_view b w in
          let at = node-branch v r b w e node in
          let kids = (over-of v r b w at).kids in
          ap (is_sorted word_order) (content-branch v r b w e)
          ∙ joined-rises (head_at t.level) (head_at t.level t.prefix) (content_at v r b) t.children (head-less t.level)
          (branch-sound b w (branch-of v r b w at)).rising
          (each-weaker (λ k. IsKid t.level (head_at t.level t.prefix + k.0) (IsNodeAt v r b) (content_at v r b) (depth b) k.1)
          (λ k. Each (λ x. head_at t.level x.0 ≡ head_at t.level t.prefix + k.0) (content_at v r b k.1)) t.children
          (λ k i. i.heads) kids)
          (each-weaker (λ k. IsKid t.level (head_at t.level t.prefix + k.0) (IsNodeAt v r b) (content_at v r b) (depth b) k.1)
          (λ k. is_sorted word_order (content_at v r b k.1) ≡ true) t.children (λ k i. rises_at v r b k.1 i.sound) kids)
      | false ↦ λ e. rises_leaf v (suc r) b w e node
    ] refl

pub root-rises : (v : Bool) (b : Blocks) (w : ℕ) → IsRoot v b w → is_sorted word_order (entries v b w) ≡ true
unfolding IsRoot entries
root-rises v b w h = rises_at v 8 b w h

pub root-words : (v : Bool) (b : Blocks) (w : ℕ) → IsRoot v b w → IsWordArray (entries v b w)
root-words v b w h = (root-rises v b w h, root-small v b w h)
