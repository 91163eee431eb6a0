-- The request computed from the fields is the request that they spell.
use Rattle.std.proofs.Common.{◌≡◌, inl, inr, ℕ, true, cond, List, [], ◌∷◌, refl, ◌∙◌, ap, sym, subst, Option, Some, None}
use Rattle.std.specs.Prelude.{IsTrue, option_map, option_and_then, codes}
use Rattle.std.specs.Ordering.{eq_by_cmp}
use Rattle.judy_model.specs.declared.calls.Call.{Call}
use Rattle.judy_model.specs.declared.calls.Call.TheVariants.{One, Long, Str, Bytes, Intersect, Names, Used}
use Rattle.judy_model.specs.declared.commands.Command.{Command}
use Rattle.judy_model.specs.declared.commands.Kind.{Kind}
use Rattle.judy_model.specs.declared.commands.Operation.{Operation}
use Rattle.judy_model.specs.declared.requests.Line.{Line}
use Rattle.judy_model.specs.declared.requests.Line.TheVariants as request
use Rattle.judy_model.specs.Commands.{commands, command_of, to}
use Rattle.judy_model.specs.Contents.{string_order}
use Rattle.judy_model.specs.Grammar.{Spell, SpellCall, is_name, is_token, at_command, call_by, names_call}
use Rattle.judy_model.specs.Reading.{auth_of, named_request, other_request, request_by, request_of_fields}
use Rattle.judy_model.proofs.lemmas.CallLemmas.{from_if, from_map, from_value, made_call, names_made}
use Rattle.judy_model.proofs.lemmas.TestLemmas.{is_Equal}
use Rattle.judy_model.proofs.lemmas.StateLemmas.{equal_names}

-- names that compare equal are equal
pub same_command : (a b : List ℕ) → eq_by_cmp string_order a b ≡ true → a ≡ b
same_command a b e = equal_names a b (is_Equal (string_order a b) e)

-- a call that is spelled is the call of the computed request
call_request : (fields : List (List ℕ)) (call : Call) → SpellCall fields call → request_of_fields fields ≡ Some (request.Call call)
call_request fields call (word, name, more, e, n, c) =
    let (command, found, made) = from_value (λ x. call_by x.kind x.operation name more) (at_command word commands) call c in
    ap request_of_fields e ∙ ap (λ b. cond b (named_request word name more) None) n
    ∙ ap (λ o. request_by o word name more) found ∙ ap (option_map (λ x. request.Call x)) made

-- the fields spell the computed request
pub Spell-request_of_fields : (fields : List (List ℕ)) (r : Line) → Spell fields r → request_of_fields fields ≡ Some r
Spell-request_of_fields fields (request.Auth name token) (e, n, t) = rw (e, n, t) refl
Spell-request_of_fields fields request.Quit e = rw e refl
Spell-request_of_fields fields request.Ping e = rw e refl
Spell-request_of_fields fields request.Hello e = rw e refl
Spell-request_of_fields fields (request.Call Used) e = rw e refl
Spell-request_of_fields fields (request.Call (Names from k)) (field, more, e, n, made) =
    ap request_of_fields e ∙ ap (λ b. cond b (named_request (codes "NAMES") field more) None) n ∙ ap (option_map (λ x. request.Call x)) made
Spell-request_of_fields fields (request.Call (Intersect name other i n)) s = call_request fields (Intersect name other i n) s
Spell-request_of_fields fields (request.Call (One name call)) s = call_request fields (One name call) s
Spell-request_of_fields fields (request.Call (Long name call)) s = call_request fields (Long name call) s
Spell-request_of_fields fields (request.Call (Str name call)) s = call_request fields (Str name call) s
Spell-request_of_fields fields (request.Call (Bytes name call)) s = call_request fields (Bytes name call) s

-- a value is determined by its `Some`
the_value : {A : Type 0} (x y : A) → Some x ≡ Some y → x ≡ y
the_value x y h = cc

-- a login that is read is spelled
auth_Spell : (command name : List ℕ) (more : List (List ℕ)) (r : Line) → IsTrue (is_name name) → auth_of command name more ≡ Some
    r → Spell (command ∷ name ∷ more) r
auth_Spell command name [] r n h = cc
auth_Spell command name (token ∷ x ∷ xs) r n h = cc
auth_Spell command name (token ∷ []) r n h =
    elim (from_if (eq_by_cmp string_order command (codes "AUTH")) _ None r h) [
      | inr out ↦ absurd (let none : None ≡ Some r = out.1 in cc)
      | inl hit ↦ elim (from_if (is_token token) (Some (request.Auth name token)) None r hit.1) [
        | inr out ↦ absurd (let none : None ≡ Some r = out.1 in cc)
        | inl good ↦ subst (Spell (command ∷ name ∷ token ∷ [])) (the_value (request.Auth name token) r good.1)
            (ap (λ c. c ∷ name ∷ token ∷ []) (same_command command (codes "AUTH") hit.0), n, good.0)
      ]
    ]

-- a list of arrays that is read is spelled
names_Spell : (field : List ℕ) (more : List (List ℕ)) (call : Call) → IsTrue (is_name field) → names_call field more ≡ Some call
    → Spell (codes "NAMES" ∷ field ∷ more) (request.Call call)
names_Spell field more call n made =
    let (from, k, same) = names_made field more call made in
    subst (λ c. Spell (codes "NAMES" ∷ field ∷ more) (request.Call c)) same (field, more, refl, n, made ∙ ap Some (sym same))

-- a request of a word that makes no call of an array
other_Spell : (word field : List ℕ) (more : List (List ℕ)) (r : Line) → IsTrue (is_name field) → other_request word field more ≡ Some r
    → Spell (word ∷ field ∷ more) r
other_Spell word field more r n h =
    elim (from_if (eq_by_cmp string_order word (codes "NAMES")) _ (auth_of word field more) r h) [
      | inr out ↦ auth_Spell word field more r n out.1
      | inl hit ↦
          let (call, made, same) = from_map (λ c. request.Call c) (names_call field more) r hit.1 in
          subst (λ w. Spell (w ∷ field ∷ more) r) (sym (same_command word (codes "NAMES") hit.0))
          (subst (Spell (codes "NAMES" ∷ field ∷ more)) same (names_Spell field more call n made))
    ]

-- a command of the table asks for an array, and not for the whole tenant
no_whole : (kind : Kind) (operation : Operation) (name : List ℕ) (more : List (List ℕ)) (call : Call) → command_of call ≡ None
    → call_by kind operation name more ≡ Some call → ⊥
no_whole kind operation name more call whole h =
    let made : command_of call ≡ Some (to kind operation) = made_call kind operation name more call h in
    let none : None ≡ Some (to kind operation) = sym whole ∙ made in
    cc

-- a call of an array that is read is spelled
call_Spell : (word name : List ℕ) (more : List (List ℕ)) (command : Command) (call : Call) → IsTrue (is_name name)
    → at_command word commands ≡ Some command → call_by command.kind command.operation name more ≡ Some call
    → Spell (word ∷ name ∷ more) (request.Call call)
call_Spell word name more command call n found made = by call made
  where
    by : (x : Call) → call_by command.kind command.operation name more ≡ Some x → Spell (word ∷ name ∷ more) (request.Call x)
    by Used h = absurd (no_whole command.kind command.operation name more Used refl h)
    by (Names from k) h = absurd (no_whole command.kind command.operation name more (Names from k) refl h)
    by (Intersect first second i k) h = (word, name, more, refl, n, ap (option_and_then (λ x. call_by x.kind x.operation name more)) found ∙ h)
    by (One other c) h = (word, name, more, refl, n, ap (option_and_then (λ x. call_by x.kind x.operation name more)) found ∙ h)
    by (Long other c) h = (word, name, more, refl, n, ap (option_and_then (λ x. call_by x.kind x.operation name more)) found ∙ h)
    by (Str other c) h = (word, name, more, refl, n, ap (option_and_then (λ x. call_by x.kind x.operation name more)) found ∙ h)
    by (Bytes other c) h = (word, name, more, refl, n, ap (option_and_then (λ x. call_by x.kind x.operation name more)) found ∙ h)

-- a request with a name that is read is spelled
named_Spell : (word name : List ℕ) (more : List (List ℕ)) (r : Line) → IsTrue (is_name name) → named_request word name more ≡ Some r
    → Spell (word ∷ name ∷ more) r
named_Spell word name more r n h = by (at_command word commands) refl h
  where
    by : (o : Option Command) → at_command word commands ≡ o → request_by o word name more ≡ Some r → Spell (word ∷ name ∷ more) r
    by None found h = other_Spell word name more r n h
    by (Some command) found h =
        let (call, made, same) = from_map (λ c. request.Call c) (call_by command.kind command.operation name more) r h in
        subst (Spell (word ∷ name ∷ more)) same (call_Spell word name more command call n found made)

-- a request of one field that is read is spelled
alone_Spell : (command : List ℕ) (r : Line) → request_of_fields (command ∷ []) ≡ Some r → Spell (command ∷ []) r
alone_Spell command r h =
    elim (from_if (eq_by_cmp string_order command (codes "QUIT")) (Some request.Quit) _ r h) [
      | inl a ↦ subst (Spell (command ∷ [])) (the_value request.Quit r a.1) (ap (λ c. c ∷ []) (same_command command (codes "QUIT") a.0))
      | inr a ↦ elim (from_if (eq_by_cmp string_order command (codes "USED")) (Some (request.Call Used)) _ r a.1) [
        | inl b ↦ subst (Spell (command ∷ [])) (the_value (request.Call Used) r b.1) (ap (λ c. c ∷ []) (same_command command (codes "USED") b.0))
        | inr b ↦ elim (from_if (eq_by_cmp string_order command (codes "PING")) (Some request.Ping) _ r b.1) [
          | inl c ↦ subst (Spell (command ∷ [])) (the_value request.Ping r c.1) (ap (λ x. x ∷ []) (same_command command (codes "PING") c.0))
          | inr c ↦ elim (from_if (eq_by_cmp string_order command (codes "HELLO")) (Some request.Hello) None r c.1) [
            | inl d ↦ subst (Spell (command ∷ [])) (the_value request.Hello r d.1) (ap (λ x. x ∷ []) (same_command command (codes "HELLO") d.0))
            | inr out ↦ absurd (let none : None ≡ Some r = out.1 in cc)
          ]
        ]
      ]
    ]

-- and the computed request is spelled
pub request_of_fields-Spell : (fields : List (List ℕ)) (r : Line) → request_of_fields fields ≡ Some r → Spell fields r
request_of_fields-Spell [] r h = cc
request_of_fields-Spell (command ∷ []) r h = alone_Spell command r h
request_of_fields-Spell (command ∷ name ∷ more) r h =
    elim (from_if (is_name name) (named_request command name more) None r h) [
      | inl hit ↦ named_Spell command name more r hit.0 hit.1
      | inr out ↦ absurd (let none : None ≡ Some r = out.1 in cc)
    ]
