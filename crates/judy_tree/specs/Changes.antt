-- How an array and its arena change together. Each definition takes the arena's whole view before
-- and after.
--     IsSame old new                the same blocks, the same count of refusals
--     IsShort old new               the same blocks, and one more refusal
--     IsRefused old w new x         a call whose request for memory was refused
--     RootBecomes v old w new x l   the array at w became the one at x
--     found v a w key               the value of a key in the array at w
--     has_found v a w key           whether the key is present
--     Puts, Writes, RootRemoves     the array after a key is inserted, after a key's value is
--                                   written, after a key is removed
use Rattle.std.specs.Prelude.{◌≡◌, ℕ, Bool, Option, if◌then◌else◌}
use Rattle.std.specs.Option.{unwrap_or}
use Rattle.judy_arena.specs.Blocks.{ArenaState, count_up}
use Rattle.judy_arena.specs.Frame.{Frame}
use Rattle.judy_model.specs.Contents.{Entries, word_order, value_of, has_key, with_entry, without_key}
use Rattle.judy_tree.specs.Root.{IsRoot, entries, numbers}

-- no block changed, and no request was refused
pub record IsSame (old new : ArenaState) : Type 0 where
  pub blocks : new.blocks ≡ old.blocks
  pub refusals : new.refusals ≡ old.refusals

-- no block changed, and a request was refused
pub record IsShort (old new : ArenaState) : Type 0 where
  pub blocks : new.blocks ≡ old.blocks
  pub refusals : new.refusals ≡ count_up old.refusals

-- no block changed, the reference stays, and a request was refused
pub record IsRefused (old : ArenaState) (w : ℕ) (new : ArenaState) (x : ℕ) : Type 0 where
  pub blocks : new.blocks ≡ old.blocks
  pub word : x ≡ w
  pub counted : new.refusals ≡ count_up old.refusals

-- the array at w became the sound array at x with these entries, and no block of another array
-- changed
pub record RootBecomes (v : Bool) (old : ArenaState) (w : ℕ) (new : ArenaState) (x : ℕ) (l : Entries ℕ) : Type 0 where
  pub root : IsRoot v new.blocks x
  pub content : entries v new.blocks x ≡ l
  pub frame : Frame old.blocks new.blocks (numbers old.blocks w) (numbers new.blocks x)

-- the value of the key in the array at w; below, whether the key is present
abbrev pub found : Bool → ArenaState → ℕ → ℕ → Option ℕ
found v a w key = value_of word_order (entries v a.blocks w) key

abbrev pub has_found : Bool → ArenaState → ℕ → ℕ → Bool
has_found v a w key = has_key word_order (entries v a.blocks w) key

-- the entries after a key is inserted with this value, unless it is present
abbrev pub put_in : ℕ → ℕ → Entries ℕ → Entries ℕ
put_in key value l = with_entry word_order l key (unwrap_or (value_of word_order l key) value)

-- if `done`, the key is inserted; otherwise the entries stay
abbrev pub Puts : Bool → ArenaState → ℕ → ℕ → ℕ → Bool → ArenaState → ℕ → Type 0
Puts v old w key value done new x =
    RootBecomes v old w new x (if done then put_in key value (entries v old.blocks w) else entries v old.blocks w)

-- the key now has this value
abbrev pub Writes : Bool → ArenaState → ℕ → ℕ → ℕ → ArenaState → ℕ → Type 0
Writes v old w key value new x = RootBecomes v old w new x (with_entry word_order (entries v old.blocks w) key value)

-- the key is no longer present
abbrev pub RootRemoves : Bool → ArenaState → ℕ → ℕ → ArenaState → ℕ → Type 0
RootRemoves v old w key new x = RootBecomes v old w new x (without_key word_order (entries v old.blocks w) key)
