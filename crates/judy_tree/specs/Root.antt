-- What the root of an array leads to, in the blocks of an arena: a tree of at most eight levels.
--     IsRoot v b w         the reference w leads to a sound array; it has values if v
--     entries v b w        its content: a leaf's entries, or those of the children, joined in
--                          rising order of their bytes
--     numbers b w          the numbers of its blocks
--     Spells v b w l ns    all three
--     HasRootSpace v b w   its blocks have few words
use Rattle.std.specs.Prelude.{◌≡◌, ℕ, ◌+◌, ◌*◌, ◌<◌, ◌≤◌, Bool, List, length}
use Rattle.judy_arena.specs.Blocks.{Blocks}
use Rattle.judy_arena.specs.Totals.{words_over}
use Rattle.judy_model.specs.Contents.{Entries}
use Rattle.judy_tree.specs.Nodes.{IsNodeAt, content_at, numbers_at}

-- eight levels are enough for keys of eight bytes
unfoldable pub entries : Bool → Blocks → ℕ → Entries ℕ
entries v b w = content_at v 8 b w

unfoldable pub numbers : Blocks → ℕ → List ℕ
numbers b w = numbers_at 8 b w

unfoldable pub IsRoot : Bool → Blocks → ℕ → Type 0
IsRoot v b w = IsNodeAt v 8 b w

-- the reference leads to a sound array with these entries, in the blocks of these numbers
pub record Spells (v : Bool) (b : Blocks) (w : ℕ) (l : Entries ℕ) (ns : List ℕ) : Type 0 where
  pub sound : IsRoot v b w
  pub content : entries v b w ≡ l
  pub blocks : numbers b w ≡ ns

-- an array of n entries, n above 0, has at most 12 n - 8 words in its blocks, and one with no
-- entries has none
pub record HasRootSpace (v : Bool) (b : Blocks) (w : ℕ) : Type 0 where
  pub none : length (entries v b w) ≡ 0 → words_over b (numbers b w) ≡ 0
  pub some : 0 < length (entries v b w) → words_over b (numbers b w) + 8 ≤ 12 * length (entries v b w)
