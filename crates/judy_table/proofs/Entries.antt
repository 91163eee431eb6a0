-- The entries of a tree that are left in a loop over it.
use Rattle.std.proofs.Common.{◌≡◌, ℕ, List, ◌∷◌, inl, inr, refl, string_bytes, subst}
use Rattle.toml.specs.Data.{Data, Members}
use Rattle.toml.specs.View.{members_view, view}
use Rattle.toml.proofs.Views.{Entry}
use Rattle.judy_table.specs.Blames.{HasMember}

-- all that these entries have is in the document
abbrev pub AreIn : List Entry → Members → Type 0
AreIn es ms = (name : List ℕ) (d : Data) → HasMember name d (members_view es) → HasMember name d ms

cut : (es rest : List Entry) (e : Entry) (ms : Members) → es ≡ e ∷ rest → AreIn es ms → AreIn (e ∷ rest) ms
cut es rest e ms p h = subst (λ (xs : List Entry). AreIn xs ms) p h

pub in-rest : (es rest : List Entry) (e : Entry) (ms : Members) → es ≡ e ∷ rest → AreIn es ms → AreIn rest ms
in-rest es rest e ms p h = λ name d m. cut es rest e ms p h name d (inr m)

pub in-first : (es rest : List Entry) (e : Entry) (ms : Members) → es ≡ e ∷ rest → AreIn es ms → HasMember (string_bytes e.0) (view e.1) ms
in-first es rest e ms p h = cut es rest e ms p h (string_bytes e.0) (view e.1) (inl (refl, refl))
