-- What the calls that change leaves do. The public definitions speak of the leaf's reference:
--     LeafBecomes v old w new x l             the leaf at w became the leaf at x with the entries l
--     LeafPuts v old new w key value answer   what an insertion into the leaf at w does
--     LeafRemoves v old new w key answer      what a removal from the leaf at w does
--     Makes v old new l answer                what making a leaf does
--     Draws old new from answer               what an insertion takes from the machine
--     DrawsNew old new answer                 what making a leaf takes from it
--     blocks_for answer                       how many blocks an insertion takes
-- Those that end in In say the same of a leaf with these entries in the blocks of these numbers.
use Rattle.std.specs.Prelude.{◌≡◌, ◌<◌, ◌≤◌, ℕ, Bool, List, Option, Some, Result, Ok, Err, [], ◌∷◌, IsFalse}
use Rattle.judy_arena.specs.Blocks.{ArenaState, count_up, words_of}
use Rattle.judy_arena.specs.Draws.{DrawsBlock}
use Rattle.judy_arena.specs.Frame.{Frame}
use Rattle.judy_refs.specs.References.{kind_of}
use Rattle.judy_refs.specs.declared.Kind.{Kind}
use Rattle.judy_refs.specs.declared.Kind.TheVariants.{LinearLeaf, BitmapLeaf}
use Rattle.judy_refs.specs.declared.Ref.{Ref}
use Rattle.judy_arena.specs.declared.blocks.NoMemory.{NoMemory}
use Rattle.judy_model.specs.Contents.{Entries, word_order, value_of, has_key, with_entry, without_key}
use Rattle.judy_leaf.specs.Linear.{linear_entries}
use Rattle.judy_leaf.specs.Bytes.{bitmap_entries}
use Rattle.judy_leaf.specs.Leaf.{IsLeaf, leaf_entries, leaf_numbers, leaf_size, CannotTake}
use Rattle.judy_leaf.specs.declared.answers.Put.{Put}
use Rattle.judy_leaf.specs.declared.answers.Put.TheVariants as put
use Rattle.judy_leaf.specs.declared.answers.Removed.{Removed}
use Rattle.judy_leaf.specs.declared.answers.Removed.TheVariants as removed

-- the leaf at x, with these entries, replaced the blocks of these numbers, and no other block
-- changed
pub record BecomesIn (v : Bool) (old new : ArenaState) (ns : List ℕ) (l : Entries ℕ) (x : ℕ) : Type 0 where
  pub leaf : IsLeaf v new.blocks x
  pub entries : leaf_entries v new.blocks x ≡ l
  pub frame : Frame old.blocks new.blocks ns (leaf_numbers new.blocks x)
  pub refusals : new.refusals ≡ old.refusals

-- the leaf at w became the leaf at x, which has these entries, and no other block changed
abbrev pub LeafBecomes : Bool → ArenaState → ℕ → ArenaState → ℕ → Entries ℕ → Type 0
LeafBecomes v old w new x l = BecomesIn v old new (leaf_numbers old.blocks w) l x

-- the blocks and the count of refusals are the same
abbrev pub IsSameArena : ArenaState → ArenaState → Type 0
IsSameArena old new = (new.blocks ≡ old.blocks) × (new.refusals ≡ old.refusals)

-- the blocks are the same, and the count of refusals is one higher
abbrev pub IsRefusedBlock : ArenaState → ArenaState → Type 0
IsRefusedBlock old new = (new.blocks ≡ old.blocks) × (new.refusals ≡ count_up old.refusals)

-- an insertion into a leaf of this kind: `Present` for a present key, the other results for an
-- absent one; `Split` if and only
-- if the leaf cannot take the key
abbrev pub PutsIn : Bool → ArenaState → ArenaState → Option Kind → Entries ℕ → List ℕ → ℕ → ℕ → Put → Type 0
PutsIn v old new kind l ns key value (put.Done x) =
    IsFalse (has_key word_order l key) × (CannotTake kind l key → ⊥) × BecomesIn v old new ns (with_entry word_order l key value) x
PutsIn v old new kind l ns key value (put.Present was) = (value_of word_order l key ≡ Some was) × IsSameArena old new
PutsIn v old new kind l ns key value put.Split = IsFalse (has_key word_order l key) × CannotTake kind l key × IsSameArena old new
PutsIn v old new kind l ns key value put.NoMemory =
    IsFalse (has_key word_order l key) × (CannotTake kind l key → ⊥) × IsRefusedBlock old new

-- an insertion into the linear leaf in this block; below, into the bitmap leaf or full leaf in it
abbrev pub PutsInLinear : Bool → ArenaState → ArenaState → ℕ → ℕ → ℕ → Put → Type 0
PutsInLinear v old new n key value answer = PutsIn v old new (Some LinearLeaf) (linear_entries v (words_of old.blocks n)) (n ∷ []) key value answer

abbrev pub PutsInBits : Bool → ArenaState → ArenaState → ℕ → ℕ → ℕ → Put → Type 0
PutsInBits v old new n key value answer = PutsIn v old new (Some BitmapLeaf) (bitmap_entries v (words_of old.blocks n)) (n ∷ []) key value answer

-- an insertion into the leaf at w
abbrev pub LeafPuts : Bool → ArenaState → ArenaState → ℕ → ℕ → ℕ → Put → Type 0
LeafPuts v old new w key value answer = PutsIn v old new (kind_of w) (leaf_entries v old.blocks w) (leaf_numbers old.blocks w) key value answer

-- a removal, with the removed value
abbrev pub RemovesIn : Bool → ArenaState → ArenaState → Entries ℕ → List ℕ → ℕ → Removed → Type 0
RemovesIn v old new l ns key removed.Absent = IsFalse (has_key word_order l key) × IsSameArena old new
RemovesIn v old new l ns key (removed.Left x was) =
    (value_of word_order l key ≡ Some was) × BecomesIn v old new ns (without_key word_order l key) x × (x ≡ 0 → ⊥)
RemovesIn v old new l ns key (removed.Emptied was) =
    (value_of word_order l key ≡ Some was) × (without_key word_order l key ≡ []) × BecomesIn v old new ns [] 0

-- a removal from the linear leaf in this block; below, from the bitmap leaf or full leaf in it
abbrev pub RemovesInLinear : Bool → ArenaState → ArenaState → ℕ → ℕ → Removed → Type 0
RemovesInLinear v old new n key answer = RemovesIn v old new (linear_entries v (words_of old.blocks n)) (n ∷ []) key answer

abbrev pub RemovesInBits : Bool → ArenaState → ArenaState → ℕ → ℕ → Removed → Type 0
RemovesInBits v old new n key answer = RemovesIn v old new (bitmap_entries v (words_of old.blocks n)) (n ∷ []) key answer

-- a removal from the leaf at w
abbrev pub LeafRemoves : Bool → ArenaState → ArenaState → ℕ → ℕ → Removed → Type 0
LeafRemoves v old new w key answer = RemovesIn v old new (leaf_entries v old.blocks w) (leaf_numbers old.blocks w) key answer

-- a new leaf of these entries was made in a block of its own, or the block was refused
abbrev pub Makes : Bool → ArenaState → ArenaState → Entries ℕ → Result Ref NoMemory → Type 0
Makes v old new l (Ok x) = BecomesIn v old new [] l x
Makes v old new l (Err refused) = IsRefusedBlock old new

-- What a call takes from the machine whose leaf had `from` words before and has `to` after: nothing
-- if the block became no larger, and otherwise what a new block takes
pub record DrawsFor (old new : ArenaState) (from to : ℕ) : Type 0 where
  pub inside : to ≤ from → new.region ≡ old.region
  pub outside : from < to → DrawsBlock old new to

-- what an insertion takes from the machine into a leaf of this many words; only one that is done
-- takes any
abbrev pub Draws : ArenaState → ArenaState → ℕ → Put → Type 0
Draws old new from (put.Done x) = DrawsFor old new from (leaf_size new.blocks x)
Draws old new from (put.Present was) = new.region ≡ old.region
Draws old new from put.Split = new.region ≡ old.region
Draws old new from put.NoMemory = new.region ≡ old.region

-- what making a leaf takes
abbrev pub DrawsNew : ArenaState → ArenaState → Result Ref NoMemory → Type 0
DrawsNew old new (Ok x) = DrawsBlock old new (leaf_size new.blocks x)
DrawsNew old new (Err refused) = new.region ≡ old.region

-- how many blocks an insertion takes: one if it is done, which may lie in its old block
abbrev pub blocks_for : Put → ℕ
blocks_for (put.Done x) = 1
blocks_for (put.Present was) = 0
blocks_for put.Split = 0
blocks_for put.NoMemory = 0
