-- How many entries a node can have: its blocks are distinct, have numbers below 2^32, and few
-- entries each.
use Rattle.std.proofs.Common.{◌≡◌, ℕ, zero, suc, ◌+◌, ◌*◌, ◌<◌, ◌≤◌, Bool, true, false, cond, ◌||◌, ◌==◌, List, [], ◌∷◌}
use Rattle.std.proofs.Common.{length, ap, sym, ◌∙◌, refl, arith, length-append}
use Rattle.std.proofs.lemmas.Bool.Decides.{nat_tests}
use Rattle.judy_arena.specs.Blocks.{Blocks}
use Rattle.judy_arena.specs.Frame.{holds}
use Rattle.judy_arena.specs.Totals.{are_distinct}
use Rattle.judy_model.specs.Contents.{Entries}
use Rattle.judy_tree.specs.Each.{Each}
use Rattle.judy_branch.specs.Branch.{branch_view, branch_number}
use Rattle.judy_tree.specs.Nodes.{head_at, is_branch, joined, IsKid, depth, content_at, numbers_at, IsNodeAt}
use Rattle.judy_tree.specs.Root.{entries, numbers, IsRoot}
use Rattle.judy_tree.proofs.LeafLaws.{leaf-few, leaf-low}
use Rattle.judy_tree.proofs.lemmas.Joins.{times, distinct-times, each-weaker}
use Rattle.judy_tree.proofs.Nodes.{content-leaf, content-branch, numbers-leaf, numbers-branch, node-leaf, node-branch, over-of, leaf_at_zero}
use Rattle.judy_tree.proofs.lemmas.Trees.{numbers-once, within-joined}

-- how many items of the list are below n
upto : ℕ → List ℕ → ℕ
upto zero ns = 0
upto (suc n) ns = times n ns + upto n ns

upto_none : (n : ℕ) → upto n [] ≡ 0
unfolding upto
upto_none zero = refl
upto_none (suc n) = let r = upto_none n in omega arith

upto_past : (n x : ℕ) (ns : List ℕ) → n ≤ x → upto n (x ∷ ns) ≡ upto n ns
unfolding upto
upto_past zero x ns h = refl
upto_past (suc n) x ns h =
    let r = upto_past n x ns (omega arith) in
    let e : (n == x) ≡ false = other n x (omega arith) in
    let o : cond {A = ℕ} (n == x) 1 0 ≡ 0 = ap (λ t. cond {A = ℕ} t 1 0) e in
    omega arith
  where
    other : (n x : ℕ) → n < x → (n == x) ≡ false
    other n x h = grind (arith, nat_tests)

upto_in : (n x : ℕ) (ns : List ℕ) → x < n → upto n (x ∷ ns) ≡ 1 + upto n ns
unfolding upto
upto_in zero x ns h = absurd (omega arith)
upto_in (suc n) x ns h =
    elim (n == x) as (λ t. (n == x) ≡ t → (cond t 1 0 + times n ns) + upto n (x ∷ ns) ≡ 1 + (times n ns + upto n ns)) [
      | true ↦ λ e. let p = upto_past n x ns (at n x e) in omega arith
      | false ↦ λ e. let r = upto_in n x ns (less n x h e) in omega arith
    ] refl
  where
    at : (n x : ℕ) → (n == x) ≡ true → n ≤ x
    at n x e = grind (arith, nat_tests)

    less : (n x : ℕ) → x < suc n → (n == x) ≡ false → x < n
    less n x h e = grind (arith, nat_tests)

all_in : (n : ℕ) (ns : List ℕ) → ((q : ℕ) → holds q ns ≡ true → q < n) → length ns ≡ upto n ns
all_in n [] h = sym (upto_none n)
all_in n (x ∷ ns) h =
    let r = all_in n ns (λ q i. h q (ap (λ t. (q == x) || t) i ∙ or_true (q == x))) in
    let e = upto_in n x ns (h x (ap (λ t. t || holds x ns) (itself x))) in
    omega arith
  where
    or_true : (t : Bool) → (t || true) ≡ true
    or_true true = refl
    or_true false = refl

    itself : (x : ℕ) → (x == x) ≡ true
    itself x = grind (arith, nat_tests)

upto_few : (n : ℕ) (ns : List ℕ) → ((q : ℕ) → times q ns ≤ 1) → upto n ns ≤ n
unfolding upto
upto_few zero ns h = omega arith
upto_few (suc n) ns h = let r = upto_few n ns h in let t = h n in omega arith

-- distinct numbers below a bound are at most this many
pub pigeons : (n : ℕ) (ns : List ℕ) → are_distinct ns ≡ true → ((q : ℕ) → holds q ns ≡ true → q < n) → length ns ≤ n
pigeons n ns d h = let e = all_in n ns h in let f = upto_few n ns (distinct-times ns d) in omega arith

few_joined : (f : ℕ → Entries ℕ) (n : ℕ → List ℕ) (cs : Entries ℕ) → Each (λ k. length (f k.1) ≤ 256 * length (n k.1)) cs
    → length (joined f cs) ≤ 256 * length (joined n cs)
few_joined f n [] h = omega arith
few_joined f n (k ∷ cs) h = let r = few_joined f n cs h.1 in
    let i = h.0 in omega (arith, length-append (f k.1) (joined f cs), length-append (n k.1) (joined n cs))

few_leaf : (v : Bool) (r : ℕ) (b : Blocks) (w : ℕ) → is_branch w ≡ false → IsNodeAt v r b w → length (content_at v r b w) ≤ 256 * length (numbers_at r b w)
few_leaf v r b w e node = let i = leaf-few v b w (node-leaf v r b w e node) in let x = ap length (content-leaf v r b w e) in
    let y = ap length (numbers-leaf r b w e) in omega arith

few_at : (v : Bool) (r : ℕ) (b : Blocks) (w : ℕ) → IsNodeAt v r b w → length (content_at v r b w) ≤ 256 * length (numbers_at r b w)
few_at v zero b w node = few_leaf v zero b w (leaf_at_zero v b w node) node
few_at v (suc r) b w node =
    elim (is_branch w) as (λ t. is_branch w ≡ t → length (content_at v (suc r) b w) ≤ 256 * length (numbers_at (suc r) b w)) [
      | true ↦ λ e.
          let t = branch_view b w in
          let k = few_joined (content_at v r b) (numbers_at r b) t.children
          (each-weaker (λ k. IsKid t.level (head_at t.level t.prefix + k.0) (IsNodeAt v r b) (content_at v r b) (depth b) k.1)
          (λ k. length (content_at v r b k.1) ≤ 256 * length (numbers_at r b k.1)) t.children
          (λ k i. few_at v r b k.1 i.sound) (over-of v r b w (node-branch v r b w e node)).kids) in
          let x = ap length (content-branch v r b w e) in
          let y : length (numbers_at (suc r) b w) ≡ suc (length (joined (numbers_at r b) t.children)) = ap length (numbers-branch r b w e) in omega arith
      | false ↦ λ e. few_leaf v (suc r) b w e node
    ] refl

low_leaf : (v : Bool) (r : ℕ) (b : Blocks) (w q : ℕ) → is_branch w ≡ false → IsNodeAt v r b w → holds q (numbers_at r b w) ≡ true → q < 4294967296
low_leaf v r b w q e node h = leaf-low v b w q (node-leaf v r b w e node) (ap (holds q) (sym (numbers-leaf r b w e)) ∙ h)

low_at : (v : Bool) (r : ℕ) (b : Blocks) (w q : ℕ) → IsNodeAt v r b w → holds q (numbers_at r b w) ≡ true → q < 4294967296
low_at v zero b w q node h = low_leaf v zero b w q (leaf_at_zero v b w node) node h
low_at v (suc r) b w q node h =
    elim (is_branch w) as (λ t. is_branch w ≡ t → q < 4294967296) [
      | true ↦ λ e.
          let t = branch_view b w in
          either (q == branch_number w) (holds q (joined (numbers_at r b) t.children)) (ap (holds q) (sym (numbers-branch r b w e)) ∙ h)
          (λ i. let j : q ≡ branch_number w = same q (branch_number w) i in let k : branch_number w < 4294967296 = omega arith in omega arith)
          (within-joined (q < 4294967296) (numbers_at r b) t.children q
          (each-weaker (λ k. IsKid t.level (head_at t.level t.prefix + k.0) (IsNodeAt v r b) (content_at v r b) (depth b) k.1)
          (λ k. holds q (numbers_at r b k.1) ≡ true → q < 4294967296) t.children
          (λ k i j. low_at v r b k.1 q i.sound j) (over-of v r b w (node-branch v r b w e node)).kids))
      | false ↦ λ e. low_leaf v (suc r) b w q e node h
    ] refl
  where
    either : {A : Type 0} (s t : Bool) → (s || t) ≡ true → (s ≡ true → A) → (t ≡ true → A) → A
    either true t h f g = f refl
    either false t h f g = g h

    same : (a c : ℕ) → (a == c) ≡ true → a ≡ c
    same a c e = grind (arith, nat_tests)

pub root-low : (v : Bool) (b : Blocks) (w q : ℕ) → IsRoot v b w → holds q (numbers b w) ≡ true → q < 4294967296
unfolding IsRoot numbers
root-low v b w q h i = low_at v 8 b w q h i

many_numbers : (v : Bool) (b : Blocks) (w : ℕ) → IsRoot v b w → length (numbers b w) ≤ 4294967296
many_numbers v b w h = pigeons 4294967296 (numbers b w) (numbers-once v b w h) (λ q i. root-low v b w q h i)

-- a node has fewer than 2^60 entries
pub root-few : (v : Bool) (b : Blocks) (w : ℕ) → IsRoot v b w → length (entries v b w) < 1152921504606846976
unfolding IsRoot entries numbers
root-few v b w h = let f = few_at v 8 b w h in let n = many_numbers v b w h in omega arith

pub few-blocks : (v : Bool) (b : Blocks) (w : ℕ) → IsRoot v b w → length (entries v b w) ≤ 256 * length (numbers b w)
unfolding IsRoot entries numbers
few-blocks v b w h = few_at v 8 b w h
