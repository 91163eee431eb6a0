-- A walk over the entries of an array in order.
--     Takes came last key found key'    what a walk takes of what came
--     Walks .. line .. found ..         the next entry was looked for by this line, and this was found
use Rattle.std.specs.Prelude.{◌≡◌, ℕ, List, Option, Some, None, Ok, decimal}
use Rattle.judy_model.specs.Speakers.{Speaker}
use Rattle.judy_protocol.specs.Services.{Made}
use Rattle.judy_upkeep.specs.Asking.{Finds}
use Rattle.judy_upkeep.specs.Lines.{key_text}
use Rattle.judy_upkeep.specs.declared.asking.Came.{Came}
use Rattle.judy_upkeep.specs.declared.asking.Came.TheVariants as what

-- what is taken of what came: the value of the entry that was found, and the text of its key
abbrev pub Takes : Came → List ℕ → List ℕ → Option ℕ → List ℕ → Type 0
Takes (what.At index value) last key found key' = (found ≡ Some value) × (key' ≡ decimal index)
Takes (what.AtKey value) last key found key' = (found ≡ Some value) × (key' ≡ key_text last)
Takes what.Nothing last key found key' = (found ≡ None) × (key' ≡ key)
Takes (what.Value value) last key found key' = ⊥
Takes (what.Count count) last key found key' = ⊥

-- The next entry was looked for by this line. The service gave this value and this key, or said that there is none.
pub record Walks {S K : Type 0} (who : K → Speaker) (made : Made S) (speakers : List K) (tenant : ℕ) (line : List ℕ)
    (last last' key : List ℕ) (found : Option ℕ) (key' : List ℕ) (old new : S) : Type 0 where
  pub came : Came
  pub asked : Finds who made speakers tenant line (Ok came) last last' old new
  pub takes : Takes came last' key found key'
