-- Arrays in one arena, each at a key. A place has a root's word and two counts.
--     Sound k b p      the place p at the key k is sound in the blocks b, for its kind of array
--     numbers k b w    the numbers of the blocks of the array at the key k with the root w
--     Same k a b w     the array at the key k with the root w holds the same in both blocks
--     IsShelf          each place leads to an array with its own blocks, and no block is left over
--     AreKept          what every kind requires: the empty place is sound, and an array survives
--                      while its blocks do
use Rattle.std.specs.Prelude.{◌≡◌, ◌≢◌, ℕ, cond, ◌==◌, List, [], ◌∷◌, is_some, true}
use Rattle.std.specs.FinMap.{FinMap, entries, get}
use Rattle.judy_arena.specs.Blocks.{Blocks, is_live}
use Rattle.judy_arena.specs.Frame.{Frame, holds, AreApart}
use Rattle.judy_model.specs.Contents.{Entries, string_order}
use Rattle.judy_model.specs.Tenant.{Arrays}
use Rattle.judy_directory.specs.Places.{Stand, at, nothing}

-- the array under each key
abbrev pub Places : Type 0
Places = FinMap string_order Stand

module _ (Sound : List ℕ → Blocks → Stand → Type 0) (numbers : List ℕ → Blocks → ℕ → List ℕ) (Same : List ℕ → Blocks → Blocks → ℕ → Type 0) where
  -- each place leads to an array with its own blocks, and no block is left over
  pub record IsShelf (b : Blocks) (places : Places) : Type 0 where
    -- each place leads to a sound array
    pub sound : (k : List ℕ) → Sound k b (at places k)
    -- no place has the empty reference
    pub filled : (k : List ℕ) → is_some (get places k) ≡ true → (at places k).root ≢ 0
    -- two places that share a block are equal
    pub apart : (k m : List ℕ) (q : ℕ) → holds q (numbers k b (at places k).root) ≡ true → holds q (numbers m b (at places m).root) ≡ true → k ≡ m
    -- every live block belongs to a place
    pub whole : (q : ℕ) → is_live b q ≡ true → (k : List ℕ) × (holds q (numbers k b (at places k).root) ≡ true)

  -- the requirements on every kind of array
  pub record AreKept : Type 0 where
    -- the empty place is sound and has no block
    pub none : (k : List ℕ) (b : Blocks) → Sound k b nothing × (numbers k b 0 ≡ [])
    -- an array is unchanged by a change that lists none of its block numbers, neither as old nor as
    -- new
    pub stays : (k : List ℕ) (a b : Blocks) (old new : List ℕ) (p : Stand) → Frame a b old new → Sound k a p → AreApart (numbers k a p.root) old
        → Sound k b p × (numbers k b p.root ≡ numbers k a p.root) × AreApart (numbers k a p.root) new × Same k a b p.root

-- the entry of a key that begins with this byte: the rest of the key, with the array's entries
abbrev pub pick : {K : Type 0} → (ℕ → Entries K) → ℕ → List ℕ → Stand → Arrays K → Arrays K
pick content owner [] p more = more
pick content owner (byte ∷ name) p more = cond (owner == byte) ((name, content p.root) ∷ more) more

-- the arrays whose keys begin with this byte, by the rests of their keys
abbrev pub picked : {K : Type 0} → (ℕ → Entries K) → ℕ → List (List ℕ × Stand) → Arrays K
picked content owner [] = []
picked content owner (e ∷ es) = pick content owner e.0 e.1 (picked content owner es)

-- the arrays of the owner, sorted by name
abbrev pub arrays_of : {K : Type 0} → (Blocks → ℕ → Entries K) → ℕ → Blocks → Places → Arrays K
arrays_of content owner b places = picked (content b) owner (entries places)
