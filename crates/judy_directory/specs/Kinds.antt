-- The keys of arrays.
use Rattle.std.specs.Prelude.{◌≡◌, ℕ, ◌+◌, ◌*◌, ◌/◌, Bool, false, not, List, [], ◌∷◌, get_or}
use Rattle.judy_model.specs.Commands.{kind_number}
use Rattle.judy_model.specs.declared.commands.Kind.{Kind}

-- the number of a tenant and a kind
abbrev pub owner_byte : ℕ → Kind → ℕ
owner_byte tenant kind = 4 * tenant + kind_number kind

-- the key of an array: the number of its tenant and kind, then the bytes of its name
abbrev pub spot_of : ℕ → Kind → List ℕ → List ℕ
spot_of tenant kind name = owner_byte tenant kind ∷ name

-- the key is that of an array of this tenant
abbrev pub IsOf : ℕ → List ℕ → Type 0
IsOf tenant key = (kind : Kind) × (name : List ℕ) × (key ≡ spot_of tenant kind name)

-- whether the key is that of an array of a tenant that is marked
abbrev pub is_gone : List Bool → List ℕ → Bool
is_gone gone [] = false
is_gone gone (owner ∷ name) = get_or gone (owner / 4) false

abbrev pub is_staying : List Bool → List ℕ → Bool
is_staying gone key = not (is_gone gone key)
