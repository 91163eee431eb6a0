-- Walks over a map.
--     is_above, is_below     whether a key is above a bound, or below the one that was found
--     IsLeastOf              the least of the entries whose keys pass a test
--     hashed_in b w          the entries of the map in the order of walks, each under its hashed key
--     first_behind           the least hash word of a JudyL, or the next one
--     is_behind              whether a hashed key has a hash word behind this one
--     shown_entry            the entry that a step of a walk finds, under its hashed key
use Rattle.std.specs.Prelude.{◌≡◌, ◌∷◌, ℕ, Bool, true, false, List, Option, Some, None, get_or, nat_lt, option_map}
use Rattle.std.specs.Ordering.{is_gt, is_lt}
use Rattle.judy_arena.specs.Blocks.{Blocks}
use Rattle.judy_model.specs.Contents.{Entries, first, next, string_order, value_of, word_order}
use Rattle.judy_model.specs.Walks.{by_hash}
use Rattle.judy_bytes.specs.Chains.{ByteEntries}
use Rattle.judy_bytes.specs.BytesArrays.{bytes_in}
use Rattle.judy_bytes.specs.declared.walks.Shown.{Shown}

-- whether a key is above the bound, if there is one
abbrev pub is_above : Option (List ℕ) → List ℕ → Bool
is_above None key = true
is_above (Some bound) key = is_gt (string_order key bound)

-- whether a key is below the one that was found with a value, if one was
abbrev pub is_below : Option ℕ → List ℕ → List ℕ → Bool
is_below None found key = true
is_below (Some v) found key = is_lt (string_order key found)

-- This value and its key are the least of the entries whose keys pass a test. There is no value if none passes.
pub record IsLeastOf (es : ByteEntries) (passes : List ℕ → Bool) (value : Option ℕ) (key : List ℕ) : Type 0 where
  pub entry : (v : ℕ) → value ≡ Some v → (value_of string_order es key ≡ Some v) × (passes key ≡ true)
  pub least : (k : List ℕ) (v : ℕ) → value_of string_order es k ≡ Some v → passes k ≡ true → is_below value key k ≡ false

-- the entries of the map in the order of walks
abbrev pub hashed_in : Blocks → ℕ → ByteEntries
hashed_in b w = by_hash (bytes_in b w)

-- the entry of the least hash word, or of the one behind this
abbrev pub first_behind : Entries ℕ → Option ℕ → Option (ℕ × ℕ)
first_behind es None = first word_order es 0
first_behind es (Some h) = next word_order es h

-- whether a hashed key has a hash word behind this one
abbrev pub is_behind : Option ℕ → List ℕ → Bool
is_behind None key = true
is_behind (Some h) key = nat_lt h (get_or key 0 0)

-- the entry that a step of a walk finds, with its key, under its hashed key
abbrev pub shown_entry : Option Shown → List ℕ → Option (List ℕ × ℕ)
shown_entry shown key = option_map (λ s. (s.hash ∷ key, s.value)) shown
