-- How a call changes one node, and the rest of a string at that node.
use Rattle.std.specs.Prelude.{◌≡◌, ◌≢◌, ℕ, ◌*◌, ◌≤◌, true, false, Some, None, List, [], ◌∷◌, length, Option, unwrap_or, is_some, if◌then◌else◌, Result, Ok, Err}
use Rattle.judy_arena.specs.Blocks.{Blocks, ArenaState, count_up}
use Rattle.judy_arena.specs.Frame.{Frame}
use Rattle.judy_arena.specs.declared.blocks.NoMemory.{NoMemory}
use Rattle.judy_model.specs.Contents.{Order, Entries, string_order, word_order, value_of, has_key, with_entry, without_key}
use Rattle.judy_model.specs.declared.calls.Given.{Given}
use Rattle.judy_model.specs.Tenant.{value_after}
use Rattle.judy_tree.specs.Root.{IsRoot, entries, numbers}
use Rattle.judy_packing.specs.Packing.{pack, IsString}
use Rattle.judy_string.specs.Suffixes.{is_suffix}
use Rattle.judy_string.specs.Strings.{nested_content_at, IsChanged}
use Rattle.judy_tree.specs.declared.answers.Inserted.{Inserted}

-- the rest of a string, of at most 8 * room bytes
pub record IsRest (room : ℕ) (s : List ℕ) : Type 0 where
  pub string : IsString s
  pub short : length s ≤ 8 * room
  pub few : room ≤ 125

-- the word array at w became the one at x with these entries, and no other block changed
pub record IsRewritten (a c : Blocks) (w x : ℕ) (l : Entries ℕ) : Type 0 where
  pub root : IsRoot true c x
  pub content : entries true c x ≡ l
  pub frame : Frame a c (numbers a w) (numbers c x)

-- the value of a key after an insertion, by its value before; a new key counts as 0
abbrev pub entered : Option ℕ → Given → ℕ
entered before given = value_after given (unwrap_or before 0)

-- the entries after such an insertion
abbrev pub with_given : {K : Type 0} → Order K → Entries K → K → Given → Entries K
with_given order l k given = with_entry order l k (entered (value_of order l k) given)

-- the word array at w became the one at x, after an insertion of the word
abbrev pub IsGiven : Blocks → Blocks → ℕ → ℕ → Given → ℕ → Type 0
IsGiven a c w k given x = IsRewritten a c w x (with_given word_order (entries true a w) k given)

-- the word array at w became the one at x, with this value at the word
abbrev pub IsPut : Blocks → Blocks → ℕ → ℕ → ℕ → ℕ → Type 0
IsPut a c w k v x = IsRewritten a c w x (with_entry word_order (entries true a w) k v)

-- the word array at w became the one at x, without the word
abbrev pub IsTakenWord : Blocks → Blocks → ℕ → ℕ → ℕ → Type 0
IsTakenWord a c w k x = IsRewritten a c w x (without_key word_order (entries true a w) k)

-- the node w has this value at the string s, and no block of another node changed
abbrev pub IsWritten : ℕ → Blocks → Blocks → ℕ → List ℕ → ℕ → Type 0
IsWritten m a c w s v = IsChanged m a c w w (with_entry string_order (nested_content_at m a w) s v)

-- a new array x has the string s with the value v and the string t with the value u
abbrev pub IsForkedArray : ℕ → ArenaState → ArenaState → List ℕ → ℕ → List ℕ → ℕ → ℕ → Type 0
IsForkedArray m a c s v t u x = IsChanged m a.blocks c.blocks 0 x (with_entry string_order ((s, v) ∷ []) t u)

-- the string s was under the node w, which became x and lost it, and no other block changed
pub record HasLost (m : ℕ) (a c : ArenaState) (w : ℕ) (s : List ℕ) (x : ℕ) : Type 0 where
  pub there : has_key string_order (nested_content_at m a.blocks w) s ≡ true
  pub changed : IsChanged m a.blocks c.blocks w x (without_key string_order (nested_content_at m a.blocks w) s)
  -- an array stays an array
  pub kind : is_suffix w ≡ false → is_suffix x ≡ false

-- what a removal returns and leaves: the node without the string, or None if the string was absent;
-- then nothing changed
abbrev pub RemovesString : ℕ → ArenaState → ArenaState → ℕ → List ℕ → Option ℕ → Type 0
RemovesString m a c w s (Some x) = HasLost m a c w s x
RemovesString m a c w s None = (value_of string_order (nested_content_at m a.blocks w) s ≡ None) × (c ≡ a)

-- in the word array at w in a and at x in c the word has the same value, or none
abbrev pub StaysAt : Blocks → Blocks → ℕ → ℕ → ℕ → Type 0
StaysAt a c w x k = value_of word_order (entries true c x) k ≡ value_of word_order (entries true a w) k

-- one string, whose first word was new in the word array w, was inserted there: the array became x,
-- and its other words stay
pub record IsHung (m : ℕ) (a c : Blocks) (w : ℕ) (s : List ℕ) (v : ℕ) (x : ℕ) : Type 0 where
  pub changed : IsChanged m a c w x (with_entry string_order (nested_content_at m a w) s v)
  pub kind : is_suffix x ≡ false
  pub others : (k : ℕ) → k ≢ pack s → StaysAt a c w x k

-- the string s was inserted under the node w, which became x, and no other block changed; the
-- result says what was present before
pub record HasEntered (m : ℕ) (a c : ArenaState) (w : ℕ) (s : List ℕ) (given : Given)
    (x : ℕ) (told : Option ℕ) : Type 0 where
  pub changed : IsChanged m a.blocks c.blocks w x (with_given string_order (nested_content_at m a.blocks w) s given)
  pub before : told ≡ value_of string_order (nested_content_at m a.blocks w) s
  -- an array stays an array
  pub kind : is_suffix w ≡ false → is_suffix x ≡ false
  pub quiet : c.refusals ≡ a.refusals

-- the string s was inserted under the node w; the answer gives the node that w became and what was
-- present before
abbrev pub Enters : ℕ → ArenaState → ArenaState → ℕ → List ℕ → Given → Inserted → Type 0
Enters m a c w s given it = HasEntered m a c w s given it.root it.before

-- how many blocks an insertion takes, if one of an absent string takes at most n
abbrev pub most_blocks : ℕ → Result Inserted NoMemory → ℕ
most_blocks n (Ok it) = if is_some it.before then 0 else n
most_blocks n (Err refused) = n

-- a block was refused: the string was absent, the count of refusals rose by one, and no block
-- changed
pub record IsTurnedAway (m : ℕ) (a c : ArenaState) (w : ℕ) (s : List ℕ) : Type 0 where
  pub absent : value_of string_order (nested_content_at m a.blocks w) s ≡ None
  pub blocks : c.blocks ≡ a.blocks
  pub counted : c.refusals ≡ count_up a.refusals
