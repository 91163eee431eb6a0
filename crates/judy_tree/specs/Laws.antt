-- Laws of the content of a root, for every layout of an array in its blocks.
use Rattle.std.specs.Prelude.{◌≡◌, ℕ, ◌+◌, ◌*◌, ◌<◌, ◌≤◌, ◌^◌, Bool, true, false, ◌==◌, List, [], length, IsTrue}
use Rattle.std.specs.List.{list_all}
use Rattle.judy_arena.specs.Blocks.{Blocks, ArenaState, block, is_live, words_of}
use Rattle.judy_arena.specs.Totals.{are_distinct, words_over}
use Rattle.judy_refs.specs.References.{kind_part, is_reference}
use Rattle.judy_arena.specs.Frame.{holds, Frame, AreApart}
use Rattle.judy_model.specs.Contents.{Entries, IsWordArray, HasWordValues}
use Rattle.judy_tree.specs.Root.{IsRoot, Spells, HasRootSpace, numbers}
use Rattle.judy_tree.specs.Changes.{RootBecomes}

-- An array stays the same over a change that lists none of its block numbers, as old or as new.
abbrev pub OthersStay : Type 0
OthersStay =
    (v : Bool) (before after : Blocks) (old new : List ℕ) (w : ℕ) (l : Entries ℕ) (ns : List ℕ)
    → Frame before after old new → Spells v before w l ns → AreApart ns old → Spells v after w l ns × AreApart ns new

-- The blocks of an array alone determine its entries.
abbrev pub OwnBlocksTell : Type 0
OwnBlocksTell =
    (v : Bool) (here there : Blocks) (w : ℕ) (l : Entries ℕ) (ns : List ℕ)
    → ((q : ℕ) → holds q ns ≡ true → block there q ≡ block here q) → Spells v here w l ns → Spells v there w l ns

-- The blocks of an array are live and distinct.
abbrev pub BlocksAreLive : Type 0
BlocksAreLive =
    (v : Bool) (b : Blocks) (w : ℕ) (l : Entries ℕ) (ns : List ℕ)
    → Spells v b w l ns → ((q : ℕ) → holds q ns ≡ true → IsTrue (is_live b q)) × IsTrue (are_distinct ns)

-- The keys are words that rise strictly. The values are words, all 0 in a set. There are fewer than
-- 2^64 entries.
abbrev pub ContentIsSound : Type 0
ContentIsSound =
    (v : Bool) (b : Blocks) (w : ℕ) (l : Entries ℕ) (ns : List ℕ)
    → Spells v b w l ns → IsWordArray l × HasWordValues l × (v ≡ false → IsTrue (list_all (λ e. e.1 == 0) l)) × (length l < 2 ^ 64)

-- The empty reference has no entries and no block. Every other reference has entries.
abbrev pub OnlyNothingIsEmpty : Type 0
OnlyNothingIsEmpty =
    (v : Bool) (b : Blocks) → Spells v b 0 [] [] × ((w : ℕ) (ns : List ℕ) → Spells v b w [] ns → w ≡ 0)

-- The word of an array is a reference of one of the six kinds of leaves and branches.
abbrev pub RootsAreReferences : Type 0
RootsAreReferences =
    (v : Bool) (b : Blocks) (w : ℕ) (l : Entries ℕ) (ns : List ℕ) → Spells v b w l ns → IsTrue (is_reference w) × (kind_part w ≤ 6)

-- The numbers of an array's blocks are below 2^32. An array has at most 256 entries for each of its
-- blocks.
abbrev pub BlocksAreFew : Type 0
BlocksAreFew =
    (v : Bool) (b : Blocks) (w : ℕ) (l : Entries ℕ) (ns : List ℕ)
    → Spells v b w l ns → ((q : ℕ) → holds q ns ≡ true → q < 2 ^ 32) × (length l ≤ 256 * length ns)

-- Each block has at least 4 words. The blocks of n entries, n above 0, have at most 12 n - 8 words
-- together.
abbrev pub BlocksAreSmall : Type 0
BlocksAreSmall =
    (v : Bool) (b : Blocks) (w : ℕ) (l : Entries ℕ) (ns : List ℕ)
    → Spells v b w l ns → ((q : ℕ) → holds q ns ≡ true → 4 ≤ length (words_of b q)) × (0 < length l → words_over b ns + 8 ≤ 12 * length l)

-- An array stays the same if no block changes.
abbrev pub NothingChanges : Type 0
NothingChanges =
    (v : Bool) (old new : ArenaState) (w : ℕ) (l : Entries ℕ) (ns : List ℕ)
    → new.blocks ≡ old.blocks → Spells v old.blocks w l ns → RootBecomes v old w new w l × (numbers new.blocks w ≡ ns)

-- Every sound root has few words (`HasRootSpace`).
abbrev pub RootsHaveSpace : Type 0
RootsHaveSpace = (v : Bool) (b : Blocks) (w : ℕ) → IsRoot v b w → HasRootSpace v b w
