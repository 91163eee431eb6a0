-- The nodes of a tree: a leaf, or a branch over nodes. A branch chooses by the byte at its level.
-- Bytes between its level and a child's level are
-- skipped; the child's prefix holds them.
--     head_at level k     the bytes of a key up to the one at the level, as a number
--     depth b w           the level at which a branch chooses, 8 at a leaf
--     IsNodeAt, content_at, numbers_at     what a reference leads to, with a bound on its levels
use Rattle.std.specs.Prelude.{◌≡◌, ℕ, zero, suc, ◌+◌, ◌-◌, ◌*◌, ◌/◌, ◌^◌, ◌<◌, Bool, false, cond, List, [], ◌∷◌, ◌++◌, length, IsTrue, nat_lt}
use Rattle.std.specs.Bool.{MatchBool}
use Rattle.judy_arena.specs.Blocks.{Blocks}
use Rattle.judy_refs.specs.References.{kind_part, kind_number}
use Rattle.judy_refs.specs.declared.Kind.TheVariants.{FullLeaf}
use Rattle.judy_arena.specs.Totals.{are_distinct}
use Rattle.judy_model.specs.Contents.{Entries}
use Rattle.judy_tree.specs.Each.{Each}
use Rattle.judy_leaf.specs.Leaf.{IsLeaf, leaf_entries, leaf_numbers}
use Rattle.judy_branch.specs.Branch.{IsBranch, View, branch_view, branch_number}

-- the bytes of a key up to the one at the level, as a number
unfoldable pub head_at : ℕ → ℕ → ℕ
head_at level k = k / 2 ^ (56 - 8 * level)

-- whether a reference leads to a branch
abbrev pub is_branch : ℕ → Bool
is_branch w = nat_lt (kind_number FullLeaf) (kind_part w)

-- the lists of the children, joined in rising order of their bytes
abbrev pub joined : {A : Type 0} → (ℕ → List A) → Entries ℕ → List A
joined f [] = []
joined f (c ∷ cs) = f c.1 ++ joined f cs

-- a child of a branch of this level: `Sound`, `spelt` and `deep` give the soundness, the entries
-- and the depth of the nodes below
pub record IsKid (level head : ℕ) (Sound : ℕ → Type 0) (spelt : ℕ → Entries ℕ) (deep : ℕ → ℕ) (w : ℕ) : Type 0 where
  pub sound : Sound w
  -- it chooses by a later byte
  pub deeper : level < deep w
  -- it has a key
  pub filled : 0 < length (spelt w)
  -- its keys have the branch's prefix and the child's byte
  pub heads : Each (λ e. head_at level e.0 ≡ head) (spelt w)

-- a branch over children; `Sound`, `spelt`, `used` and `deep` give what is known of the nodes below
pub record IsOver (t : View) (own : ℕ) (Sound : ℕ → Type 0) (spelt : ℕ → Entries ℕ) (used : ℕ → List ℕ) (deep : ℕ → ℕ) : Type 0 where
  pub kids : Each (λ c. IsKid t.level (head_at t.level t.prefix + c.0) Sound spelt deep c.1) t.children
  -- no two children share a block, and none has the branch's own block
  pub once : IsTrue (are_distinct (own ∷ joined used t.children))
  pub population : t.population ≡ length (joined spelt t.children)

unfoldable pub depth : Blocks → ℕ → ℕ
depth b w = cond (is_branch w) (branch_view b w).level 8

-- the entries, with a bound on the levels left
unfoldable pub content_at : Bool → ℕ → Blocks → ℕ → Entries ℕ
content_at v zero b w = leaf_entries v b w
content_at v (suc r) b w = cond (is_branch w) (joined (content_at v r b) (branch_view b w).children) (leaf_entries v b w)

unfoldable pub numbers_at : ℕ → Blocks → ℕ → List ℕ
numbers_at zero b w = leaf_numbers b w
numbers_at (suc r) b w = cond (is_branch w) (branch_number w ∷ joined (numbers_at r b) (branch_view b w).children) (leaf_numbers b w)

unfoldable pub IsNodeAt : Bool → ℕ → Blocks → ℕ → Type 0
IsNodeAt v zero b w = (is_branch w ≡ false) × IsLeaf v b w
IsNodeAt v (suc r) b w = MatchBool (is_branch w) (IsBranch b w × IsOver (branch_view b w) (branch_number w) (IsNodeAt v r b) (content_at v r b) (numbers_at r b) (depth b)) (IsLeaf v b w)
