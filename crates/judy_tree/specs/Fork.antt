-- Where two keys differ, and a branch of the two nodes that lead to them.
use Rattle.std.specs.Prelude.{◌≡◌, ◌≢◌, ℕ, ◌+◌, ◌<◌, ◌≤◌, ◌%◌, Bool, [], ◌∷◌, Result, Ok, Err}
use Rattle.judy_arena.specs.Blocks.{Blocks, ArenaState}
use Rattle.judy_arena.specs.Frame.{Frame}
use Rattle.judy_refs.specs.declared.Ref.{Ref}
use Rattle.judy_arena.specs.declared.blocks.NoMemory.{NoMemory}
use Rattle.judy_model.specs.Contents.{word_order, with_entry}
use Rattle.judy_branch.specs.Branch.{IsBranch, View, branch_view, branch_number}
use Rattle.judy_tree.specs.Each.{Each}
use Rattle.judy_tree.specs.Nodes.{head_at, depth}
use Rattle.judy_tree.specs.Root.{entries}
use Rattle.judy_tree.specs.Changes.{IsShort}

-- the two keys first differ in the byte at the level
pub record Differ (a b level : ℕ) : Type 0 where
  pub low : level ≤ 7
  pub differ : head_at level a ≢ head_at level b
  pub agree : (m : ℕ) → m < level → head_at m a ≡ head_at m b

-- the node may go under a branch where a key first differs from the sample: the node chooses by a
-- later byte, and its keys agree
-- with the sample up to that branch
abbrev pub CanFork : Bool → Blocks → ℕ → ℕ → ℕ → Type 0
CanFork v b w sample key = (level : ℕ) → Differ sample key level → (level < depth b w) × (level ≤ 6) × Each (λ e. head_at level e.0 ≡ head_at level sample) (entries v b w)

-- the branch of this level has the two nodes, each at its key's byte
pub record IsFork (t : View) (at a b keys node made : ℕ) : Type 0 where
  pub level : t.level ≡ at
  pub population : t.population ≡ keys
  pub one : head_at at t.prefix + head_at at a % 256 ≡ head_at at a
  pub other : head_at at t.prefix + head_at at b % 256 ≡ head_at at b
  pub children : t.children ≡ with_entry word_order ((head_at at a % 256, node) ∷ []) (head_at at b % 256) made

-- a new branch at r of the two nodes
pub record IsForked (old new : ArenaState) (at keys : ℕ) (one other : ℕ × ℕ) (r : ℕ) : Type 0 where
  pub branch : IsBranch new.blocks r
  pub view : IsFork (branch_view new.blocks r) at one.0 other.0 keys one.1 other.1
  pub frame : Frame old.blocks new.blocks [] (branch_number r ∷ [])
  pub refusals : new.refusals ≡ old.refusals

-- what making a branch of two nodes does
abbrev pub Forks : ArenaState → ArenaState → ℕ → ℕ → ℕ × ℕ → ℕ × ℕ → Result Ref NoMemory → Type 0
Forks old new at keys one other (Ok r) = IsForked old new at keys one other r
Forks old new at keys one other (Err e) = IsShort old new
