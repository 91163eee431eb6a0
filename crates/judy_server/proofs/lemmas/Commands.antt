-- A line that is a request is counted by its own command.
--     counted-by-its-command    the name at the place of a request is the first field of its line
--     counted-as-none           a line that is no request is counted by `none`
use Rattle.std.specs.Prelude.{◌≡◌, ℕ, Bool, true, false, cond, List, [], ◌∷◌, map, Option, Some, None, codes, option_and_then, slice_get}
use Rattle.std.proofs.Common.{◌∙◌, ap, refl, sym}
use Rattle.std.specs.Cmp.Lexicographic.{texts_ties}
use Rattle.std.specs.Ordering.{eq_by_cmp}
use Rattle.std.proofs.lemmas.Slice.Eq.{bytes_eq-Decides}
use Rattle.judy_model.proofs.lemmas.CallLemmas.{made_call}
use Rattle.judy_model.specs.Commands.{commands}
use Rattle.judy_model.specs.Contents.{string_order}
use Rattle.judy_model.specs.Grammar.{Spell, SpellCall, at_command, call_by}
use Rattle.judy_model.specs.Stream.Heard.{Asked, TooLong, Unclear}
use Rattle.judy_model.specs.declared.calls.Call.{Call}
use Rattle.judy_model.specs.declared.calls.Call.TheVariants.{One, Long, Str, Bytes, Intersect, Names, Used}
use Rattle.judy_model.specs.declared.commands.Command.{Command}
use Rattle.judy_model.specs.declared.requests.Line.{Line}
use Rattle.judy_model.specs.declared.requests.Line.TheVariants as request
use Rattle.judy_server.specs.Tally.{call_names, call_place, place_by, place_of_call, whole_place}
use Rattle.judy_server.specs.declared.calls.TheConstants.{HELLO, NAMES, PING}

-- ---- calls

-- each command of the table is named by its word
all_named : map (λ row. slice_get call_names (place_by 2 (Some row.1))) commands ≡ map (λ row. Some row.0) commands
unfolding call_names
all_named = refl

-- so is one that is found in a table
named : (name_of : Command → Option (List ℕ)) (word : List ℕ) (table : List (List ℕ × Command)) (c : Command)
    → map (λ row. name_of row.1) table ≡ map (λ row. Some row.0) table → at_command word table ≡ Some c → name_of c ≡ Some word
named name_of word [] c all e = cc
named name_of word (entry ∷ table) c all e =
    let rest : map (λ row. name_of row.1) table ≡ map (λ row. Some row.0) table = cc in
    by (λ found. named name_of word table c rest found) (eq_by_cmp string_order word entry.0) refl e
  where
    by : (at_command word table ≡ Some c → name_of c ≡ Some word)
        → (b : Bool) → eq_by_cmp string_order word entry.0 ≡ b → cond b (Some entry.1) (at_command word table) ≡ Some c → name_of c ≡ Some word
    by later true same found =
        let is : entry.1 ≡ c = cc in
        let text : word ≡ entry.0 = (bytes_eq-Decides word entry.0).0 (texts_ties word entry.0 ∙ same) in
        let first : name_of entry.1 ≡ Some entry.0 = cc in
        ap name_of (sym is) ∙ first ∙ ap Some (sym text)
    by later false other found = later found

-- at the place of a call is the word of its command
by_command : (word name : List ℕ) (more : List (List ℕ)) (call : Call) (o : Option Command) → at_command word commands ≡ o
    → option_and_then (λ c. call_by c.kind c.operation name more) o ≡ Some call → slice_get call_names (place_of_call call) ≡ Some word
by_command word name more call None is e = cc
by_command word name more call (Some c) is e =
    ap (λ o. slice_get call_names (place_by (whole_place call) o)) (made_call c.kind c.operation name more call e)
    ∙ named (λ command. slice_get call_names (place_by 2 (Some command))) word commands c all_named is

-- ---- lines

first : (fields : List (List ℕ)) (command : List ℕ) (more : List (List ℕ)) (o : Option (List ℕ)) → fields ≡ command ∷ more → o ≡ Some command
    → o ≡ slice_get fields 0
first fields command more o e h = h ∙ ap (λ fs. slice_get fs 0) (sym e)

three_names : (slice_get call_names 0 ≡ Some (codes "AUTH")) × (slice_get call_names 1 ≡ Some (codes "QUIT")) × (slice_get call_names 2 ≡ Some (codes "USED"))
unfolding call_names
three_names = (refl, refl, refl)

last_names : (slice_get call_names PING ≡ Some (codes "PING")) × (slice_get call_names HELLO ≡ Some (codes "HELLO"))
    × (slice_get call_names NAMES ≡ Some (codes "NAMES"))
unfolding call_names
last_names = (refl, refl, refl)

counted_call : (fields : List (List ℕ)) (call : Call) → SpellCall fields call → slice_get call_names (place_of_call call) ≡ slice_get fields 0
counted_call fields call (word, name, more, e, is, found) =
    first fields word (name ∷ more) _ e (by_command word name more call (at_command word commands) refl found)

-- fields that spell a request begin with the name by which it is counted
pub counted-by-its-command : (fields : List (List ℕ)) (r : Line) → Spell fields r → slice_get call_names (call_place (Asked r)) ≡ slice_get fields 0
counted-by-its-command fields (request.Auth name token) s = first fields (codes "AUTH") (name ∷ token ∷ []) (slice_get call_names 0) s.0 three_names.0
counted-by-its-command fields request.Quit s = first fields (codes "QUIT") [] (slice_get call_names 1) s three_names.1
counted-by-its-command fields request.Ping s = first fields (codes "PING") [] (slice_get call_names PING) s last_names.0
counted-by-its-command fields request.Hello s = first fields (codes "HELLO") [] (slice_get call_names HELLO) s last_names.1
counted-by-its-command fields (request.Call Used) s = first fields (codes "USED") [] (slice_get call_names 2) s three_names.2
counted-by-its-command fields (request.Call (Names from n)) (field, more, e, is, made) =
    first fields (codes "NAMES") (field ∷ more) (slice_get call_names NAMES) e last_names.2
counted-by-its-command fields (request.Call (Intersect name other i n)) s = counted_call fields (Intersect name other i n) s
counted-by-its-command fields (request.Call (One name c)) s = counted_call fields (One name c) s
counted-by-its-command fields (request.Call (Long name c)) s = counted_call fields (Long name c) s
counted-by-its-command fields (request.Call (Str name c)) s = counted_call fields (Str name c) s
counted-by-its-command fields (request.Call (Bytes name c)) s = counted_call fields (Bytes name c) s

pub counted-as-none : (slice_get call_names (call_place TooLong) ≡ Some (codes "none")) × (slice_get call_names (call_place Unclear) ≡ Some (codes "none"))
unfolding call_names
counted-as-none = (refl, refl)
