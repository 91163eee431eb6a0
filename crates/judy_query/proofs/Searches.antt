-- Searches in a node, through the children of a branch.
use Rattle.std.proofs.Common.{◌≡◌, ℕ, ◌+◌, ◌-◌, ◌<◌, ◌≤◌, Bool, true, false, cond, [], ◌∷◌, length, Some, None, ap, sym, ◌∙◌, refl, subst, arith}
use Rattle.std.specs.Prelude.{find, nat_le}
use Rattle.std.proofs.lemmas.Option.{none-some}
use Rattle.judy_arena.specs.Blocks.{Blocks}
use Rattle.judy_model.specs.Contents.{Entries, word_order, first, value_of}
use Rattle.judy_model.proofs.lemmas.GapLemmas.{Rising, rising_of}
use Rattle.judy_model.proofs.lemmas.WordLemmas.{first-words, le-not}
use Rattle.judy_tree.specs.Each.{Each}
use Rattle.judy_branch.specs.Branch.{branch_view}
use Rattle.judy_tree.proofs.lemmas.BranchLaws.{IsPlace}
use Rattle.judy_tree.specs.Nodes.{head_at, is_branch, IsKid, depth}
use Rattle.judy_tree.specs.Root.{entries, IsRoot}
use Rattle.judy_tree.proofs.lemmas.Heads.{head-less}
use Rattle.judy_tree.proofs.lemmas.Joins.{Heads, each-weaker}
use Rattle.judy_tree.proofs.lemmas.Trees.{root-top}
use Rattle.judy_query.proofs.Queries.{or_else, kid_of, first-none, first-some, next-here, else-found}

-- a child that is found is below, and smaller by the measure
pub each-first : (P : ℕ × ℕ → Type 0) (p : ℕ × ℕ → Bool) (l : Entries ℕ) (k : ℕ × ℕ) → Each P l → find p l ≡ Some k → P k
each-first P p [] k h e = absurd (none-some k e)
each-first P p (d ∷ l) k h e =
    elim (p d) as (λ t. cond t (Some d) (find p l) ≡ Some k → P k) [
      | true ↦ λ i. subst P (same d k i) h.0
      | false ↦ λ i. each-first P p l k h.1 i
    ] e
  where
    same : (d k : ℕ × ℕ) → Some d ≡ Some k → d ≡ k
    same d k i = cc

module _ (v : Bool) (b : Blocks) (w : ℕ) (is : is_branch w ≡ true) (root : IsRoot v b w) where
  pub heads : Heads (head_at (branch_view b w).level) (head_at (branch_view b w).level (branch_view b w).prefix) (entries v b) (branch_view b w).children
  heads = each-weaker (λ c. IsKid (branch_view b w).level (head_at (branch_view b w).level (branch_view b w).prefix + c.0)
      (IsRoot v b) (entries v b) (depth b) c.1)
      (λ c. Each (λ e. head_at (branch_view b w).level e.0 ≡ head_at (branch_view b w).level (branch_view b w).prefix + c.0)
      (entries v b c.1)) (branch_view b w).children (λ c i. i.heads) (root-top v b w is root).over.kids

  pub filled : Each (λ c. 0 < length (entries v b c.1)) (branch_view b w).children
  filled = each-weaker (λ c. IsKid (branch_view b w).level (head_at (branch_view b w).level (branch_view b w).prefix + c.0)
      (IsRoot v b) (entries v b) (depth b) c.1)
      (λ c. 0 < length (entries v b c.1)) (branch_view b w).children (λ c i. i.filled) (root-top v b w is root).over.kids

  pub rising : Rising (branch_view b w).children
  rising = rising_of (branch_view b w).children (root-top v b w is root).view.rising

  -- the first child from a byte on is below
  pub kid-first : (y : ℕ) (k : ℕ × ℕ) → first word_order (branch_view b w).children y ≡ Some k
      → IsKid (branch_view b w).level (head_at (branch_view b w).level (branch_view b w).prefix + k.0) (IsRoot v b) (entries v b) (depth b) k.1
  kid-first y k e = each-first
      (λ c. IsKid (branch_view b w).level (head_at (branch_view b w).level (branch_view b w).prefix + c.0) (IsRoot v b)
      (entries v b) (depth b) c.1) (λ c. nat_le y c.0) (branch_view b w).children k
      (root-top v b w is root).over.kids (sym (first-words (branch_view b w).children y) ∙ e)

  -- the entry of the least key from x on, where the children from y on may have it
  module _ (x y : ℕ) (exact : 0 < y → head_at (branch_view b w).level x ≡ head_at (branch_view b w).level (branch_view b w).prefix + y) where
    pub entry-nothing : first word_order (branch_view b w).children y ≡ None → first word_order (entries v b w) x ≡ None
    entry-nothing n = first-words (entries v b w) x ∙ ap (find (λ e. nat_le x e.0)) (root-top v b w is root).content
        ∙ first-none (head_at (branch_view b w).level) (head_at (branch_view b w).level (branch_view b w).prefix) (entries v b)
        (head-less (branch_view b w).level) x y exact (branch_view b w).children heads
        (sym (first-words (branch_view b w).children y) ∙ n)

    pub entry-branch : (k : ℕ × ℕ) → head_at (branch_view b w).level x ≤ head_at (branch_view b w).level (branch_view b w).prefix
        + y → first word_order (branch_view b w).children y ≡ Some k
        → first word_order (entries v b w) x ≡ or_else (first word_order (entries v b k.1) x)
        (first word_order (kid_of (entries v b) (first word_order (branch_view b w).children (k.0 + 1))) x)
    entry-branch k low e =
        first-words (entries v b w) x ∙ ap (find (λ e. nat_le x e.0)) (root-top v b w is root).content
        ∙ first-some (head_at (branch_view b w).level) (head_at (branch_view b w).level (branch_view b w).prefix) (entries v b)
        (head-less (branch_view b w).level) x y exact low (branch_view b w).children k rising heads filled
        (sym (first-words (branch_view b w).children y) ∙ e)
        ∙ ap (λ o. or_else o
        (find (λ e. nat_le x e.0) (kid_of (entries v b) (find (λ c. nat_le (k.0 + 1) c.0) (branch_view b w).children))))
        (sym (first-words (entries v b k.1) x))
        ∙ ap (λ o. or_else (first word_order (entries v b k.1) x) (find (λ e. nat_le x e.0) (kid_of (entries v b) o)))
        (sym (first-words (branch_view b w).children (k.0 + 1)))
        ∙ ap (λ o. or_else (first word_order (entries v b k.1) x) o)
        (sym (first-words (kid_of (entries v b) (first word_order (branch_view b w).children (k.0 + 1))) x))

  -- what the child of a word's byte has from the word on comes first in the node
  pub entry-child : (x byte c : ℕ) → head_at (branch_view b w).level x ≡ head_at (branch_view b w).level (branch_view b w).prefix
      + byte → value_of word_order (branch_view b w).children byte ≡ Some c
      → (e : ℕ × ℕ) → first word_order (entries v b c) x ≡ Some e → first word_order (entries v b w) x ≡ Some e
  entry-child x byte c at there e h =
      entry-branch x byte (λ g. at) (byte, c) (omega arith) (first-words (branch_view b w).children byte
      ∙ next-here (branch_view b w).children byte c rising there)
      ∙ else-found (first word_order (entries v b c) x) _ e h

  -- where all children lie below x
  pub entry-above : (x : ℕ) → head_at (branch_view b w).level (branch_view b w).prefix + 255 < head_at (branch_view b w).level x
      → first word_order (entries v b w) x ≡ None
  entry-above x h =
      let y : ℕ = head_at (branch_view b w).level x - head_at (branch_view b w).level (branch_view b w).prefix in
      entry-nothing x y (λ g. omega arith) (first-words (branch_view b w).children y
      ∙ none y (omega arith) (branch_view b w).children (root-top v b w is root).view.places)
    where
      none : (y : ℕ) → 256 ≤ y → (cs : Entries ℕ) → Each IsPlace cs → find (λ c. nat_le y c.0) cs ≡ None
      none y g [] p = refl
      none y g (c ∷ cs) p = let q = p.0.byte in let e : nat_le y c.0 ≡ false = le-not y c.0 (omega arith) in rw e (none y g cs p.1)
