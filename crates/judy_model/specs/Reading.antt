-- The request of a line, computed. It is the request that the grammar gives the line; None if the
-- grammar gives none.
use Rattle.std.specs.Prelude.{◌≡◌, ℕ, List, [], ◌∷◌, ◌↔◌, Option, Some, None, option_map, if◌then◌else◌, codes}
use Rattle.std.specs.Ordering.{eq_by_cmp}
use Rattle.judy_model.specs.declared.calls.Call.{Call}
use Rattle.judy_model.specs.declared.calls.Call.TheVariants.{Used}
use Rattle.judy_model.specs.declared.commands.Command.{Command}
use Rattle.judy_model.specs.declared.commands.Kind.{Kind}
use Rattle.judy_model.specs.declared.commands.Operation.{Operation}
use Rattle.judy_model.specs.declared.requests.Line.{Line}
use Rattle.judy_model.specs.declared.requests.Line.TheVariants as request
use Rattle.judy_model.specs.Commands.{command_of, commands, to}
use Rattle.judy_model.specs.Contents.{string_order}
use Rattle.judy_model.specs.Grammar.{IsRequest, fields_of, is_name, is_token, at_command, call_by, names_call}

-- the login of a command with a name and one more field
abbrev pub auth_of : List ℕ → List ℕ → List (List ℕ) → Option Line
auth_of command name (token ∷ []) =
    if eq_by_cmp string_order command (codes "AUTH") then (if is_token token then Some (request.Auth name token) else None) else None
auth_of command name more = None

-- the request of a word that makes no call of an array: a list of arrays, or else a login
abbrev pub other_request : List ℕ → List ℕ → List (List ℕ) → Option Line
other_request word field more =
    if eq_by_cmp string_order word (codes "NAMES") then option_map (λ call. request.Call call) (names_call field more) else auth_of word field more

-- the request of a command of the table, or another one
abbrev pub request_by : Option Command → List ℕ → List ℕ → List (List ℕ) → Option Line
request_by (Some c) word name more = option_map (λ call. request.Call call) (call_by c.kind c.operation name more)
request_by None word name more = other_request word name more

-- the request with this word, name and further fields
abbrev pub named_request : List ℕ → List ℕ → List (List ℕ) → Option Line
named_request word name more = request_by (at_command word commands) word name more

-- the request that the fields of a line spell
abbrev pub request_of_fields : List (List ℕ) → Option Line
request_of_fields [] = None
request_of_fields (command ∷ []) = at_command command
    ((codes "QUIT", request.Quit) ∷ (codes "USED", request.Call Used) ∷ (codes "PING", request.Ping) ∷ (codes "HELLO", request.Hello) ∷ [])
request_of_fields (command ∷ name ∷ more) = if is_name name then named_request command name more else None

-- the request that a line spells
abbrev pub request_of : List ℕ → Option Line
request_of line = request_of_fields (fields_of line)

-- a line spells the computed request and no other
abbrev pub SpellsAtMostOne : Type 0
SpellsAtMostOne = (line : List ℕ) (request : Line) → IsRequest line request ↔ (request_of line ≡ Some request)

-- a call that a command makes is of that command
abbrev pub CallsAreOfTheirCommand : Type 0
CallsAreOfTheirCommand = (kind : Kind) (operation : Operation) (name : List ℕ) (more : List (List ℕ)) (call : Call)
    → call_by kind operation name more ≡ Some call → command_of call ≡ Some (to kind operation)
