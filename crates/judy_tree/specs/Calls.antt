-- What the calls on nodes require and promise. Each definition takes the arena's whole view before
-- and after.
use Rattle.std.specs.Prelude.{◌≡◌, ◌≢◌, ℕ, ◌+◌, ◌<◌, ◌≤◌, Bool, IsFalse, get_or, Some}
use Rattle.judy_arena.specs.Blocks.{Blocks, ArenaState}
use Rattle.judy_model.specs.Contents.{Entries, word_order, value_of, has_key, with_entry, without_key}
use Rattle.judy_leaf.specs.declared.answers.Removed.{Removed}
use Rattle.judy_leaf.specs.declared.answers.Removed.TheVariants as removed
use Rattle.judy_tree.specs.declared.answers.Added.{Added}
use Rattle.judy_tree.specs.declared.answers.Added.TheVariants as added
use Rattle.judy_tree.specs.Each.{Each}
use Rattle.judy_tree.specs.Nodes.{depth, head_at}
use Rattle.judy_tree.specs.Root.{entries}
use Rattle.judy_tree.specs.Changes.{IsSame, IsShort, RootBecomes}

-- the entry at a place; the first entry has place 0
abbrev pub entry_at : Entries ℕ → ℕ → ℕ × ℕ
entry_at l i = get_or l i (0, 0)

-- the key has the branch's prefix, and this byte at its level
abbrev pub HasByte : ℕ → ℕ → ℕ → ℕ → Type 0
HasByte level prefix key byte = head_at level key ≡ head_at level prefix + byte

-- the key does not have the branch's prefix
abbrev pub IsOutside : ℕ → ℕ → ℕ → Type 0
IsOutside level prefix key = (byte : ℕ) → byte < 256 → head_at level key ≢ head_at level prefix + byte

-- a node replaces another: if all its keys and the new one agree up to a level above the old node,
-- the new node is also below that level
abbrev pub StaysDeep : Blocks → Blocks → ℕ → ℕ → Entries ℕ → ℕ → Type 0
StaysDeep before after w u l key = (level : ℕ) → level < depth before w → Each (λ e. head_at level e.0 ≡ head_at level key) l → level < depth after u

-- the node at w became the one at x, with one more key
pub record NodeGrows (v : Bool) (old : ArenaState) (w : ℕ) (new : ArenaState) (x key value : ℕ) : Type 0 where
  pub array : RootBecomes v old w new x (with_entry word_order (entries v old.blocks w) key value)
  pub deep : StaysDeep old.blocks new.blocks w x (entries v old.blocks w) key
  pub refusals : new.refusals ≡ old.refusals

-- what an insertion below a node does, by its answer
abbrev pub Adds : Bool → ArenaState → ℕ → ArenaState → ℕ → ℕ → Added → Type 0
Adds v old w new key value (added.Done x) = IsFalse (has_key word_order (entries v old.blocks w) key) × NodeGrows v old w new x key value
Adds v old w new key value (added.Present y) = (value_of word_order (entries v old.blocks w) key ≡ Some y) × IsSame old new
Adds v old w new key value added.NoMemory = IsFalse (has_key word_order (entries v old.blocks w) key) × IsShort old new

-- how many blocks an insertion takes, if one of an absent key takes at most n
abbrev pub most_blocks : ℕ → Added → ℕ
most_blocks n (added.Done x) = n
most_blocks n (added.Present y) = 0
most_blocks n added.NoMemory = n

-- the node at w became the one at x, without one key
pub record NodeShrinks (v : Bool) (old : ArenaState) (w : ℕ) (new : ArenaState) (x key : ℕ) : Type 0 where
  pub array : RootBecomes v old w new x (without_key word_order (entries v old.blocks w) key)
  pub deep : depth old.blocks w ≤ depth new.blocks x
  pub refusals : new.refusals ≡ old.refusals

-- what a removal below a node does, by its result
abbrev pub TakesBelow : Bool → ArenaState → ℕ → ArenaState → ℕ → Removed → Type 0
TakesBelow v old w new key removed.Absent = IsFalse (has_key word_order (entries v old.blocks w) key) × IsSame old new
TakesBelow v old w new key (removed.Left x y) = (value_of word_order (entries v old.blocks w) key ≡ Some y) × NodeShrinks v old w new x key × (x ≢ 0)
TakesBelow v old w new key (removed.Emptied y) = (value_of word_order (entries v old.blocks w) key ≡ Some y) × NodeShrinks v old w new 0 key
