-- Splitting a leaf: its keys go to leaves of their own under a branch, one for each byte.
use Rattle.std.specs.Prelude.{◌≡◌, ◌≢◌, ℕ, ◌+◌, ◌-◌, ◌/◌, ◌<◌, ◌≤◌, Bool, true, false, List, [], length, take, Result, Ok, Err}
use Rattle.judy_arena.specs.Blocks.{Blocks, ArenaState, count_up}
use Rattle.judy_arena.specs.Frame.{Frame, holds}
use Rattle.judy_refs.specs.declared.Ref.{Ref}
use Rattle.judy_arena.specs.declared.blocks.NoMemory.{NoMemory}
use Rattle.judy_model.specs.Contents.{Entries}
use Rattle.judy_leaf.specs.Leaf.{IsLeaf, leaf_entries, leaf_numbers}
use Rattle.judy_branch.specs.Branch.{branch_view}
use Rattle.judy_tree.specs.Each.{Each}
use Rattle.judy_tree.specs.Nodes.{head_at, depth, is_branch}
use Rattle.judy_tree.specs.Root.{IsRoot, entries, numbers}
use Rattle.judy_tree.specs.Changes.{IsShort}
use Rattle.judy_tree.specs.Calls.{entry_at}

-- the least key of a leaf, and the greatest
abbrev pub low_key : Entries ℕ → ℕ
low_key l = (entry_at l 0).0

abbrev pub high_key : Entries ℕ → ℕ
high_key l = (entry_at l (length l - 1)).0

-- this many keys from the place on agree with the key at the place up to the level, and the next
-- one, if any, does not
pub record IsRun (l : Entries ℕ) (level place count : ℕ) : Type 0 where
  pub some : 0 < count
  pub within : place + count ≤ length l
  pub same : (i : ℕ) → place ≤ i → i < place + count → head_at level (entry_at l i).0 ≡ head_at level (entry_at l place).0
  pub other : place + count < length l → head_at level (entry_at l (place + count)).0 ≢ head_at level (entry_at l place).0

-- a leaf of at most 31 keys that agree before the level, but not all at it
pub record CanSpread (v : Bool) (b : Blocks) (w level : ℕ) : Type 0 where
  pub leaf : IsLeaf v b w
  pub few : length (leaf_entries v b w) ≤ 31
  pub some : 0 < length (leaf_entries v b w)
  pub low : level ≤ 6
  pub agree : (i : ℕ) → i < length (leaf_entries v b w) → (m : ℕ) → m < level
      → head_at m (entry_at (leaf_entries v b w) i).0 ≡ head_at m (entry_at (leaf_entries v b w) 0).0
  pub differ : head_at level (entry_at (leaf_entries v b w) (length (leaf_entries v b w) - 1)).0 ≢ head_at level (entry_at (leaf_entries v b w) 0).0

-- a leaf of 31 keys that may be split at the level; where all keys and the new one agree, the level
-- is a later one
pub record MustSplit (v : Bool) (b : Blocks) (w key level : ℕ) : Type 0 where
  pub spread : CanSpread v b w level
  pub full : length (leaf_entries v b w) ≡ 31
  pub deep : (m : ℕ) → m < 8 → Each (λ e. head_at m e.0 ≡ head_at m key) (leaf_entries v b w) → m < level

-- the branch has the keys of the leaf before the place; the later keys go behind them
pub record IsPartly (v : Bool) (b : Blocks) (w u from : ℕ) : Type 0 where
  pub leaf : IsLeaf v b w
  pub few : length (leaf_entries v b w) ≤ 31
  pub root : IsRoot v b u
  pub branch : is_branch u ≡ true
  pub place : from ≤ length (leaf_entries v b w)
  pub content : entries v b u ≡ take from (leaf_entries v b w)
  pub apart : (q : ℕ) → holds q (leaf_numbers b w) ≡ true → holds q (numbers b u) ≡ false
  pub agree : (i : ℕ) → i < length (leaf_entries v b w)
      → head_at (branch_view b u).level (entry_at (leaf_entries v b w) i).0 / 256 ≡ head_at (branch_view b u).level (branch_view b u).prefix / 256
  pub later : (i : ℕ) → from ≤ i → i < length (leaf_entries v b w)
      → Each (λ c. head_at (branch_view b u).level (branch_view b u).prefix + c.0 < head_at (branch_view b u).level (entry_at (leaf_entries v b w) i).0) (branch_view b u).children

-- the branch at r replaced the blocks `old_numbers`, and has the entries of the leaf
pub record IsSpread (v : Bool) (old new : ArenaState) (old_numbers : List ℕ) (leaf level r : ℕ) : Type 0 where
  pub root : IsRoot v new.blocks r
  pub branch : is_branch r ≡ true
  pub content : entries v new.blocks r ≡ leaf_entries v old.blocks leaf
  pub frame : Frame old.blocks new.blocks old_numbers (numbers new.blocks r)
  pub deep : depth new.blocks r ≡ level
  pub refusals : new.refusals ≡ old.refusals

-- what a split does; the leaf stays
abbrev pub Spreads : Bool → ArenaState → ArenaState → ℕ → ℕ → Result Ref NoMemory → Type 0
Spreads v old new leaf level (Ok r) = IsSpread v old new [] leaf level r
Spreads v old new leaf level (Err e) = IsShort old new

-- the blocks of a branch were released because a request was refused
pub record IsGivenUp (old new : ArenaState) (old_numbers : List ℕ) : Type 0 where
  pub frame : Frame old.blocks new.blocks old_numbers []
  pub refusals : new.refusals ≡ count_up old.refusals

-- what the rest of a split does
abbrev pub SpreadsRest : Bool → ArenaState → ArenaState → ℕ → ℕ → Result Ref NoMemory → Type 0
SpreadsRest v old new leaf node (Ok r) = IsSpread v old new (numbers old.blocks node) leaf (depth old.blocks node) r
SpreadsRest v old new leaf node (Err e) = IsGivenUp old new (numbers old.blocks node)
