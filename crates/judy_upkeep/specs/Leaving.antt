-- Records of tenants who left.
--     IsGone request names     a request of such a record, with these names behind its word
use Rattle.std.specs.Prelude.{◌≡◌, ◌⊎◌, ◌++◌, ℕ, List, [], ◌∷◌, codes}

-- there is no name, or a space comes before the first
abbrev pub AreNames : List ℕ → Type 0
AreNames names = (names ≡ []) ⊎ ((rest : List ℕ) × (names ≡ 32 ∷ rest))

abbrev pub IsGone : List ℕ → List ℕ → Type 0
IsGone request names = (request ≡ codes "GONE" ++ names) × AreNames names
