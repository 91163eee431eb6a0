-- What is found in a node.
use Rattle.std.proofs.Common.{◌≡◌, ◌≢◌, ℕ, ◌+◌, ◌-◌, ◌%◌, ◌<◌, ◌≤◌, inl, inr, Bool, true, false, Option, Some, None, ap, sym, ◌∙◌, refl, arith}
use Rattle.std.proofs.lemmas.Bool.{cases_eq}
use Rattle.std.proofs.lemmas.Bool.Decides.{nat_tests}
use Rattle.std.specs.Prelude.{nat_lt}
use Rattle.judy_arena.specs.Blocks.{Blocks}
use Rattle.judy_model.specs.Contents.{word_order, value_of}
use Rattle.judy_tree.specs.Each.{Each}
use Rattle.judy_branch.specs.Branch.{branch_view}
use Rattle.judy_tree.proofs.lemmas.BranchLaws.{IsPlace}
use Rattle.judy_tree.specs.Nodes.{head_at, is_branch, joined, IsKid, depth}
use Rattle.judy_tree.specs.Root.{entries, IsRoot}
use Rattle.judy_tree.proofs.lemmas.Heads.{prefix-head}
use Rattle.judy_tree.proofs.lemmas.Joins.{kid, find-joined, find-outside, each-weaker, each-found, none_there, Heads}
use Rattle.judy_tree.proofs.lemmas.Trees.{root-top}
use Rattle.judy_tree.proofs.Nodes.{depth-branch}

module _ (v : Bool) (b : Blocks) (w key : ℕ) (is : is_branch w ≡ true) (root : IsRoot v b w) where
  heads : Heads (head_at (branch_view b w).level) (head_at (branch_view b w).level (branch_view b w).prefix) (entries v b) (branch_view b w).children
  heads = each-weaker (λ c. IsKid (branch_view b w).level (head_at (branch_view b w).level (branch_view b w).prefix + c.0)
      (IsRoot v b) (entries v b) (depth b) c.1)
      (λ c. Each (λ e. head_at (branch_view b w).level e.0 ≡ head_at (branch_view b w).level (branch_view b w).prefix + c.0)
      (entries v b c.1)) (branch_view b w).children (λ c i. i.heads) (root-top v b w is root).over.kids

  -- the key is found in the child of its byte
  pub find-in : (x : ℕ) → head_at (branch_view b w).level key ≡ head_at (branch_view b w).level (branch_view b w).prefix + x
      → value_of word_order (entries v b w) key ≡ value_of word_order (kid (entries v b) (value_of word_order (branch_view b w).children x)) key
  find-in x at = ap (λ l. value_of word_order l key) (root-top v b w is root).content
      ∙ find-joined (head_at (branch_view b w).level) (head_at (branch_view b w).level (branch_view b w).prefix) (entries v b)
      (branch_view b w).children key x (root-top v b w is root).view.rising heads at

  -- a key that has no byte there is not found
  pub find-none : ((x : ℕ) → x < 256 → head_at (branch_view b w).level key ≢ head_at (branch_view b w).level
      (branch_view b w).prefix + x) → value_of word_order (entries v b w) key ≡ None
  find-none out = ap (λ l. value_of word_order l key) (root-top v b w is root).content ∙
      elim (nat_lt (head_at (branch_view b w).level key) (head_at (branch_view b w).level (branch_view b w).prefix)) as
      (λ t. nat_lt (head_at (branch_view b w).level key) (head_at (branch_view b w).level (branch_view b w).prefix) ≡ t
      → value_of word_order (joined (entries v b) (branch_view b w).children) key ≡ None) [
        | true ↦ λ e. find-outside (head_at (branch_view b w).level) (head_at (branch_view b w).level (branch_view b w).prefix)
            (entries v b) (branch_view b w).children key heads (from _ _ e)
        | false ↦ λ e.
            let x : ℕ = head_at (branch_view b w).level key - head_at (branch_view b w).level (branch_view b w).prefix in
            let at = split _ _ e in
            find-joined (head_at (branch_view b w).level) (head_at (branch_view b w).level (branch_view b w).prefix) (entries v b)
            (branch_view b w).children key x (root-top v b w is root).view.rising heads at
            ∙ none (value_of word_order (branch_view b w).children x) (λ c i.
            out x (each-found (λ c. IsPlace c) x c (branch_view b w).children (root-top v b w is root).view.places i).byte at)
      ] refl
    where
      from : (a c : ℕ) → nat_lt a c ≡ true → a < c
      from a c h = grind (arith, nat_tests)

      split : (a c : ℕ) → nat_lt a c ≡ false → a ≡ c + (a - c)
      split a c h = let n : c ≤ a = not_less a c h in omega arith
        where
          not_less : (a c : ℕ) → nat_lt a c ≡ false → c ≤ a
          not_less a c h = grind (arith, nat_tests)

      none : (o : Option ℕ) → ((c : ℕ) → o ≡ Some c → ⊥) → value_of word_order (kid (entries v b) o) key ≡ None
      none None h = refl
      none (Some c) h = absurd (h c refl)

  -- a child is below
  pub kid-at : (x c : ℕ) → value_of word_order (branch_view b w).children x ≡ Some c → IsKid (branch_view b w).level
      (head_at (branch_view b w).level (branch_view b w).prefix + x) (IsRoot v b) (entries v b) (depth b) c
  kid-at x c e = each-found (λ c. IsKid (branch_view b w).level (head_at (branch_view b w).level (branch_view b w).prefix + c.0)
      (IsRoot v b) (entries v b) (depth b) c.1) x c (branch_view b w).children (root-top v b w is root).over.kids e

  pub deep-branch : depth b w ≡ (branch_view b w).level
  deep-branch = depth-branch b w is

  pub low-branch : (branch_view b w).level ≤ 6
  low-branch = (root-top v b w is root).view.level

  -- the key is found in the child of its byte, whatever bytes it has before the level: with others than the prefix it is in no child
  pub find-by_byte : (x : ℕ) → x ≡ head_at (branch_view b w).level key % 256
      → value_of word_order (entries v b w) key ≡ value_of word_order (kid (entries v b) (value_of word_order (branch_view b w).children x)) key
  find-by_byte x at =
      elim (cases_eq (head_at (branch_view b w).level key) (own + x)) [
        | inl e ↦ find-in x e
        | inr other ↦ find-none (λ y small e. other (same y small e)) ∙ sym (none (value_of word_order (branch_view b w).children x) refl other)
      ]
    where
      own : ℕ
      own = head_at (branch_view b w).level (branch_view b w).prefix

      same : (y : ℕ) → y < 256 → head_at (branch_view b w).level key ≡ own + y → head_at (branch_view b w).level key ≡ own + x
      same y small e =
          let z : own % 256 ≡ 0 = prefix-head (branch_view b w).level (branch_view b w).prefix (root-top v b w is root).view.level
          (root-top v b w is root).view.prefix in
          omega arith

      none : (o : Option ℕ) → value_of word_order (branch_view b w).children x ≡ o → head_at (branch_view b w).level key ≢ own + x
          → value_of word_order (kid (entries v b) o) key ≡ None
      none None e other = refl
      none (Some c) e other = none_there (head_at (branch_view b w).level) (own + x) key (entries v b c) (kid-at x c e).heads other
