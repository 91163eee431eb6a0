-- A set of words, by its reference.
--     IsOneArray b w         the reference w leads to a sound set in the blocks b
--     one_in b w             its content: each index, with the value 0
--     one_numbers b w        the numbers of its blocks
--     index_shown o          the reply to a search that found this
--     OneAnswers, OneLooks   the reply to a call, and what the call leaves
--     OneBecomes             what every call leaves of the set and of other arrays
--     HasOneSpace a w        its blocks have few words
use Rattle.std.specs.Prelude.{◌≡◌, ℕ, List, true, false, Option, Some, None}
use Rattle.judy_arena.specs.Blocks.{Blocks, ArenaState}
use Rattle.judy_arena.specs.Frame.{Frame}
use Rattle.judy_model.specs.Contents.{Entries}
use Rattle.judy_model.specs.declared.calls.OneCall.{OneCall}
use Rattle.judy_model.specs.declared.replies.Reply.{Reply}
use Rattle.judy_model.specs.declared.replies.Reply.TheVariants as reply
use Rattle.judy_model.specs.Tenant.{one_step}
use Rattle.judy_tree.specs.Root.{IsRoot, entries, numbers as numbers_of_root, HasRootSpace}

-- the reference leads to a sound set
abbrev pub IsOneArray : Blocks → ℕ → Type 0
IsOneArray b w = IsRoot false b w

-- the indexes of the set
abbrev pub one_in : Blocks → ℕ → Entries ℕ
one_in b w = entries false b w

-- the numbers of its blocks
abbrev pub one_numbers : Blocks → ℕ → List ℕ
one_numbers b w = numbers_of_root b w

-- the reply to a search: the index that it found, or 0
abbrev pub index_shown : Option ℕ → Reply
index_shown (Some x) = reply.Index x
index_shown None = reply.Int false

-- if there is room, the call of the set at w in a has this reply and leaves the set at x in b
abbrev pub OneAnswers : ArenaState → ℕ → OneCall → Reply → ArenaState → ℕ → Type 0
OneAnswers a w call given b x = one_step true (one_in a.blocks w) call ≡ (given, one_in b.blocks x)

-- the call changes nothing
abbrev pub OneLooks : ArenaState → ℕ → OneCall → Reply → Type 0
OneLooks a w call given = OneAnswers a w call given a w

-- the set at w in a became the sound set at x in b, and no block of another array changed
pub record OneBecomes (a : ArenaState) (w : ℕ) (b : ArenaState) (x : ℕ) : Type 0 where
  pub sound : IsOneArray b.blocks x
  pub frame : Frame a.blocks b.blocks (one_numbers a.blocks w) (one_numbers b.blocks x)

-- a set of n indexes has at most 12 n - 8 words in its blocks, and the empty one has none
abbrev pub HasOneSpace : ArenaState → ℕ → Type 0
HasOneSpace a w = HasRootSpace false a.blocks w
