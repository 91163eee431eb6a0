-- Which made-up tenant stands for which tenant of a journal.
--     IsAt names number name             the tenant of this name has this number
--     Stands names name number           the same of a number, if there is one; with none nobody has the name
--     Admits names name number names'    a tenant of this name was given this number
--     IsNumbered names name number ..    a tenant of this name has this number, who was given one if need be
use Rattle.std.specs.Prelude.{◌≡◌, ◌⊎◌, ℕ, List, [], ◌∷◌, ◌++◌, Option, Some, None, length, slice_get, slice_set}

-- the names at the numbers
abbrev pub Names : Type 0
Names = List (Option (List ℕ))

abbrev pub IsAt : Names → ℕ → List ℕ → Type 0
IsAt names number name = slice_get names number ≡ Some (Some name)

abbrev pub Stands : Names → List ℕ → Option ℕ → Type 0
Stands names name None = (number : ℕ) → IsAt names number name → ⊥
Stands names name (Some number) = IsAt names number name

-- this number and this name, and all others as they were
abbrev pub with_name : Names → ℕ → Option (List ℕ) → Names
with_name names number name = slice_set names number name

-- The name was given a number that nobody had, or the next one. All other names stay.
abbrev pub Admits : Names → List ℕ → ℕ → Names → Type 0
Admits names name number names' =
    ((slice_get names number ≡ Some None) × (names' ≡ with_name names number (Some name)))
    ⊎ ((number ≡ length names) × (names' ≡ names ++ Some name ∷ []))

-- The name has this number, and all names stay; or nobody had the name, and it was given this number.
abbrev pub IsNumbered : Names → List ℕ → ℕ → Names → Type 0
IsNumbered names name number names' = (IsAt names number name × (names' ≡ names))
    ⊎ (Stands names name None × Admits names name number names')
