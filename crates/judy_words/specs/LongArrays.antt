-- A map from words to words, by its reference.
--     IsLongArray b w    the reference w leads to a sound map in the blocks b
--     IsLongFinger b w x f   f is the finger of the index x
--     long_in b w        its content: each index with its value
--     long_numbers b w   the numbers of its blocks
--     IsFound l o              the entry o is one of l
--     LongAnswers, LongLooks   the reply to a call, and what the call leaves
--     LongBecomes              what every call leaves of the map and of other arrays
--     CountsRefusals           a refused call adds one to the count of refusals
use Rattle.std.specs.Prelude.{◌≡◌, ℕ, Bool, List, true, unwrap_or, if◌then◌else◌}
use Rattle.judy_arena.specs.Blocks.{Blocks, ArenaState, count_up}
use Rattle.judy_arena.specs.Frame.{Frame}
use Rattle.judy_model.specs.Contents.{Entries, word_order, value_of, with_entry}
use Rattle.judy_model.specs.declared.calls.LongCall.{LongCall}
use Rattle.judy_model.specs.declared.replies.Reply.{Reply}
use Rattle.judy_model.specs.Tenant.{long_step}
use Rattle.judy_tree.specs.Root.{IsRoot, entries, numbers as numbers_of_root, HasRootSpace}
use Rattle.judy_query.specs.Fingers.{IsFinger}
use Rattle.judy_query.specs.declared.near.Finger.{Finger}

-- the reference leads to a sound map
abbrev pub IsLongArray : Blocks → ℕ → Type 0
IsLongArray b w = IsRoot true b w

-- the finger of an index of the map
abbrev pub IsLongFinger : Blocks → ℕ → ℕ → Finger → Type 0
IsLongFinger b w x f = IsFinger true b w x f

-- the indexes of the map, each with its value
abbrev pub long_in : Blocks → ℕ → Entries ℕ
long_in b w = entries true b w

-- the numbers of its blocks
abbrev pub long_numbers : Blocks → ℕ → List ℕ
long_numbers b w = numbers_of_root b w

-- the map after the index is inserted: a present index keeps its value, and a new one gets 0
abbrev pub kept_or_zero : Entries ℕ → ℕ → Entries ℕ
kept_or_zero l x = with_entry word_order l x (unwrap_or (value_of word_order l x) 0)

-- if there is room, the call of the map at w in a has this reply and leaves the map at x in b
abbrev pub LongAnswers : ArenaState → ℕ → LongCall → Reply → ArenaState → ℕ → Type 0
LongAnswers a w call given b x = long_step true (long_in a.blocks w) call ≡ (given, long_in b.blocks x)

-- the call changes nothing
abbrev pub LongLooks : ArenaState → ℕ → LongCall → Reply → Type 0
LongLooks a w call given = LongAnswers a w call given a w

-- the map at w in a became the sound map at x in b, and no block of another array changed
pub record LongBecomes (a : ArenaState) (w : ℕ) (b : ArenaState) (x : ℕ) : Type 0 where
  pub sound : IsLongArray b.blocks x
  pub frame : Frame a.blocks b.blocks (long_numbers a.blocks w) (long_numbers b.blocks x)

-- the count of refusals rises by one if the call was not done, and stays otherwise
abbrev pub CountsRefusals : ArenaState → ArenaState → Bool → Type 0
CountsRefusals old new done = new.refusals ≡ (if done then old.refusals else count_up old.refusals)

-- a map of n indexes has at most 12 n - 8 words in its blocks, and the empty one has none
abbrev pub HasLongSpace : ArenaState → ℕ → Type 0
HasLongSpace a w = HasRootSpace true a.blocks w
