-- Laws of the content of a JudySL.
use Rattle.std.specs.Prelude.{◌≡◌, ◌↔◌, ℕ, ◌*◌, ◌<◌, ◌≤◌, ◌^◌, true, List, [], length, IsTrue}
use Rattle.std.specs.List.{list_all}
use Rattle.judy_arena.specs.Blocks.{Blocks, ArenaState, block, is_live}
use Rattle.judy_arena.specs.Frame.{holds, Frame, AreApart}
use Rattle.judy_arena.specs.Totals.{are_distinct, words_over}
use Rattle.judy_model.specs.Contents.{Entries, IsRising, string_order}
use Rattle.judy_model.specs.Grammar.{are_bytes, is_string}
use Rattle.judy_model.specs.Pieces.{pieces_of, string_pieces}
use Rattle.judy_model.specs.WellFormed.{is_string_entry}
use Rattle.judy_string.specs.StringArrays.{IsKeyString, IsStringArray, string_in, string_numbers, StringBecomes}

-- the reference leads to a sound map with these entries, in the blocks of these numbers
pub record SpellsStrings (b : Blocks) (w : ℕ) (l : Entries (List ℕ)) (ns : List ℕ) : Type 0 where
  pub sound : IsStringArray b w
  pub content : string_in b w ≡ l
  pub blocks : string_numbers b w ≡ ns

-- A map stays the same over a change that lists none of its block numbers, as old or as new.
abbrev pub OthersStay : Type 0
OthersStay =
    (before after : Blocks) (old new : List ℕ) (w : ℕ) (l : Entries (List ℕ)) (ns : List ℕ)
    → Frame before after old new → SpellsStrings before w l ns → AreApart ns old
    → SpellsStrings after w l ns × AreApart ns new

-- The blocks of a map alone determine its entries.
abbrev pub OwnBlocksTell : Type 0
OwnBlocksTell =
    (here there : Blocks) (w : ℕ) (l : Entries (List ℕ)) (ns : List ℕ)
    → ((q : ℕ) → holds q ns ≡ true → block there q ≡ block here q)
    → SpellsStrings here w l ns → SpellsStrings there w l ns

-- The blocks of a map are live and distinct.
abbrev pub BlocksAreLive : Type 0
BlocksAreLive =
    (b : Blocks) (w : ℕ) (l : Entries (List ℕ)) (ns : List ℕ)
    → SpellsStrings b w l ns
    → ((q : ℕ) → holds q ns ≡ true → IsTrue (is_live b q)) × IsTrue (are_distinct ns)

-- The strings rise strictly, and there are fewer than 2^64. Each is a string that a call may give,
-- and each value is a word.
abbrev pub ContentIsSound : Type 0
ContentIsSound =
    (b : Blocks) (w : ℕ) (l : Entries (List ℕ)) (ns : List ℕ)
    → SpellsStrings b w l ns → IsRising string_order l × (length l < 2 ^ 64) × IsTrue (list_all is_string_entry l)

-- The bytes that a call may give as a string are those that a map can hold.
abbrev pub StringsAreKeys : Type 0
StringsAreKeys = (s : List ℕ) → IsTrue (are_bytes s) → IsTrue (is_string s) ↔ IsKeyString s

-- The empty reference has no entries and no block. Every other reference has entries.
abbrev pub OnlyNothingIsEmpty : Type 0
OnlyNothingIsEmpty =
    (b : Blocks) → SpellsStrings b 0 [] [] × ((w : ℕ) (ns : List ℕ) → SpellsStrings b w [] ns → w ≡ 0)

-- A map stays the same if no block changes.
abbrev pub NothingChanges : Type 0
NothingChanges =
    (old new : ArenaState) (w : ℕ)
    → new.blocks ≡ old.blocks → IsStringArray old.blocks w
    → StringBecomes old w new w × (string_in new.blocks w ≡ string_in old.blocks w)

-- The blocks of a map have at most 16 words for each piece of its strings, and at least 4 words if
-- it has a string.
abbrev pub SpaceIsBounded : Type 0
SpaceIsBounded =
    (b : Blocks) (w : ℕ) (l : Entries (List ℕ)) (ns : List ℕ)
    → SpellsStrings b w l ns
    → (words_over b ns ≤ 16 * pieces_of string_pieces l) × (0 < length l → 4 ≤ words_over b ns)
