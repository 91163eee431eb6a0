-- Laws of the content of a JudyHS.
--     SpellsBytes H b w l ns   the reference w leads to a sound map of the hash H, with the
--                              entries l, in the blocks of the numbers ns
use Rattle.std.specs.Prelude.{◌≡◌, ℕ, ◌*◌, ◌<◌, ◌≤◌, ◌^◌, true, List, [], length, IsTrue}
use Rattle.std.specs.List.{list_all}
use Rattle.judy_arena.specs.Blocks.{Blocks, ArenaState, block, is_live}
use Rattle.judy_arena.specs.Frame.{holds, Frame, AreApart}
use Rattle.judy_arena.specs.Totals.{are_distinct, words_over}
use Rattle.judy_model.specs.declared.names.TheConstants.{KEY_LIMIT}
use Rattle.judy_model.specs.Pieces.{pieces_of, string_pieces}
use Rattle.judy_model.specs.WellFormed.{is_bytes_entry}
use Rattle.judy_model.specs.Contents.{string_order, IsRising, has_key}
use Rattle.judy_packing.specs.Packing.{AreBytes}
use Rattle.judy_bytes.specs.Chains.{ByteEntries}
use Rattle.judy_bytes.specs.BytesArrays.{IsBytesArray, bytes_in, bytes_numbers, BytesBecomes}

-- the reference leads to a sound map with these entries, in the blocks of these numbers
pub record SpellsBytes (H : List ℕ → ℕ) (b : Blocks) (w : ℕ) (l : ByteEntries) (ns : List ℕ) : Type 0 where
  pub sound : IsBytesArray H b w
  pub content : bytes_in b w ≡ l
  pub blocks : bytes_numbers b w ≡ ns

-- A map stays the same over a change that lists none of its block numbers, as old or as new.
abbrev pub OthersStay : Type 0
OthersStay =
    (H : List ℕ → ℕ) (before after : Blocks) (old new : List ℕ) (w : ℕ) (l : ByteEntries) (ns : List ℕ)
    → Frame before after old new → SpellsBytes H before w l ns → AreApart ns old
    → SpellsBytes H after w l ns × AreApart ns new

-- The blocks of a map alone determine its entries.
abbrev pub OwnBlocksTell : Type 0
OwnBlocksTell =
    (H : List ℕ → ℕ) (here there : Blocks) (w : ℕ) (l : ByteEntries) (ns : List ℕ)
    → ((q : ℕ) → holds q ns ≡ true → block there q ≡ block here q)
    → SpellsBytes H here w l ns → SpellsBytes H there w l ns

-- The blocks of a map are live and distinct.
abbrev pub BlocksAreLive : Type 0
BlocksAreLive =
    (H : List ℕ → ℕ) (b : Blocks) (w : ℕ) (l : ByteEntries) (ns : List ℕ)
    → SpellsBytes H b w l ns → ((q : ℕ) → holds q ns ≡ true → IsTrue (is_live b q)) × IsTrue (are_distinct ns)

-- a byte key of at most 1,000 bytes
pub record IsKey (key : List ℕ) : Type 0 where
  pub bytes : AreBytes key
  pub short : length key ≤ KEY_LIMIT

-- The keys rise strictly, and there are fewer than 2^64 entries. Each key has at most 1,000 bytes
-- and is one that a call may write.
abbrev pub ContentIsSound : Type 0
ContentIsSound =
    (H : List ℕ → ℕ) (b : Blocks) (w : ℕ) (l : ByteEntries) (ns : List ℕ)
    → SpellsBytes H b w l ns
    → IsRising string_order l × ((key : List ℕ) → has_key string_order l key ≡ true → IsKey key)
    × (length l < 2 ^ 64) × IsTrue (list_all is_bytes_entry l)

-- The empty reference has no entries and no block. Every other reference has entries.
abbrev pub OnlyNothingIsEmpty : Type 0
OnlyNothingIsEmpty =
    (H : List ℕ → ℕ) (b : Blocks)
    → SpellsBytes H b 0 [] [] × ((w : ℕ) (ns : List ℕ) → SpellsBytes H b w [] ns → w ≡ 0)

-- A map stays the same if no block changes.
abbrev pub NothingChanges : Type 0
NothingChanges =
    (H : List ℕ → ℕ) (old new : ArenaState) (w : ℕ)
    → new.blocks ≡ old.blocks → IsBytesArray H old.blocks w
    → BytesBecomes H old w new w × (bytes_in new.blocks w ≡ bytes_in old.blocks w)

-- The blocks of a map have at most 16 words for each piece of its keys, and at least 4 words if it
-- has a key.
abbrev pub SpaceIsBounded : Type 0
SpaceIsBounded =
    (H : List ℕ → ℕ) (b : Blocks) (w : ℕ) (l : ByteEntries) (ns : List ℕ)
    → SpellsBytes H b w l ns
    → (words_over b ns ≤ 16 * pieces_of string_pieces l) × (0 < length l → 4 ≤ words_over b ns)
