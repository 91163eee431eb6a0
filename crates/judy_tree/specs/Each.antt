-- A fact of each item of a list, by cases on the list.
use Rattle.std.specs.Prelude.{List, [], ◌∷◌}

abbrev pub Each : {A : Type 0} → (A → Type 0) → List A → Type 0
Each P [] = Unit {0}
Each P (x ∷ l) = P x × Each P l
