use Rattle.std.proofs.Common.{◌≡◌, ◌<◌, ◌≤◌, ◌+◌, ◌-◌, ◌∙◌, ℕ, zero, suc, List, [], ◌∷◌, ◌++◌, length, slice_get, refl, ap, arith}
use Rattle.std.specs.Prelude.{codes}
use Rattle.judy_model.specs.Commands.{command_words}
use Rattle.judy_model.specs.declared.commands.TheConstants.{COMMANDS}
use Rattle.judy_server.specs.Tally.{call_names}
use Rattle.judy_server.proofs.calls.call_name.Goals as goal

-- an element of the first of two lists
in_first : {A : Type 0} (xs ys : List A) (place : ℕ) → place < length xs → slice_get (xs ++ ys) place ≡ slice_get xs place
in_first [] ys place few = absurd (omega (arith, few))
in_first (x ∷ xs) ys zero few = refl
in_first (x ∷ xs) ys (suc place) few = in_first xs ys place (omega (arith, few))

-- the names from the fourth on are the words of the commands
at_command : (place : ℕ) → 3 ≤ place → place < COMMANDS + 3 → slice_get call_names place ≡ slice_get command_words (place - 3)
unfolding call_names
at_command zero low few = absurd (omega (arith, low))
at_command (suc zero) low few = absurd (omega (arith, low))
at_command (suc (suc zero)) low few = absurd (omega (arith, low))
at_command (suc (suc (suc place))) low few =
    let small : place < COMMANDS = omega (arith, few) in
    let same : place ≡ suc (suc (suc place)) - 3 = omega arith in
    in_first command_words (codes "PING" ∷ codes "HELLO" ∷ codes "NAMES" ∷ codes "none" ∷ []) place small ∙ ap (slice_get command_words) same

pub returns-in_default : goal.returns-in_default
returns-in_default c = at_command c.args.place (omega arith) (omega arith) ∙ c.command_word.ensures
