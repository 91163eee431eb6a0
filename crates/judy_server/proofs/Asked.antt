-- What is known of a call that a line asks for, and of its speaker.
use Rattle.std.proofs.Common.{◌≡◌, ◌<◌, ℕ, Bool, true, false, cond, List, [], ◌∷◌, length, Option, Some, None, refl, sym, ◌∙◌, ap, arith, subst}
use Rattle.std.specs.Prelude.{IfSome, IsTrue, codes, option_map, option_and_then}
use Rattle.std.specs.Ordering.{eq_by_cmp}
use Rattle.judy_model.specs.Commands.{commands, entries_of, free_with, kind_number, string_with}
use Rattle.judy_model.specs.Contents.{string_order}
use Rattle.judy_model.specs.Grammar.{at_command, call_by, fields_of, is_name, is_string, key_of, names_call, numbers_of_fields}
use Rattle.judy_model.specs.Grammar.{string_call, string_of}
use Rattle.judy_model.specs.Reading.{auth_of, named_request, other_request, request_by, request_of_fields}
use Rattle.judy_model.specs.Speakers.{Speaker}
use Rattle.judy_model.proofs.lemmas.CallLemmas.{made_call, names_made}
use Rattle.judy_model.specs.declared.calls.ArraysFrom.{ArraysFrom}
use Rattle.judy_model.specs.declared.calls.Call.{Call}
use Rattle.judy_model.specs.declared.calls.Call.TheVariants.{One, Long, Str, Bytes, Intersect, Names, Used}
use Rattle.judy_model.specs.declared.calls.Search.{Search}
use Rattle.judy_model.specs.declared.calls.Search.TheVariants as search
use Rattle.judy_model.specs.declared.calls.StrCall.{StrCall}
use Rattle.judy_model.specs.declared.calls.StrCall.TheVariants as str
use Rattle.judy_model.specs.declared.commands.Command.{Command}
use Rattle.judy_model.specs.declared.commands.Kind.{Kind}
use Rattle.judy_model.specs.declared.commands.Kind.TheVariants as kind
use Rattle.judy_model.specs.declared.commands.Numbers.{Numbers}
use Rattle.judy_model.specs.declared.commands.Numbers.TheVariants as numbers
use Rattle.judy_model.specs.declared.commands.Operation.{Operation}
use Rattle.judy_model.specs.declared.commands.Operation.TheVariants.{Insert, Add, Keep, Exchange, Remove, Take, Look, Count, Nth, First, Next, Last, Prev, Free, Pop, Fill, Cut}
use Rattle.judy_model.specs.declared.commands.Operation.TheVariants as operations
use Rattle.judy_model.specs.declared.commands.Operation.TheVariants.{FirstEmpty, NextEmpty, LastEmpty, PrevEmpty}
use Rattle.judy_model.specs.declared.requests.Line.TheVariants as request
use Rattle.judy_kinds.specs.Calls.{has_key_string, has_string}
use Rattle.judy_protocol.specs.Services.{IsAsked, IsKnown}
use Rattle.judy_table.specs.Seats.{knows}
use Rattle.judy_table.specs.Shown.{seen}
use Rattle.judy_table.specs.Tenants.{login_of}
use Rattle.judy_table.specs.declared.tenant.Speaker.{Speaker as Guest}
use Rattle.judy_table.specs.declared.tenant.Tenant.{Tenant}
use Rattle.judy_table.proofs.lemmas.Seats.{knows-place, login-knows}

-- ---- the key of a call of a JudySL

-- the call, if there is one, passes
abbrev Passes : Option StrCall → Type 0
Passes o = IfSome o (λ c. has_key_string c ≡ true)

-- a walk from a string passes
walk_passes : (search : Search) (key : List ℕ) (o : Option ℕ) → is_string key ≡ true → Passes (option_map (λ k. str.Walk search key k) o)
walk_passes search key None h = tt
walk_passes search key (Some k) h = h

-- the calls with a string pass
with_passes : (operation : Operation) (key : List ℕ) (ns : Numbers) → is_string key ≡ true → Passes (string_with operation key ns)
with_passes Insert key numbers.Nothing h = h
with_passes Insert key (numbers.One i) h = h
with_passes Insert key (numbers.Two i j) h = tt
with_passes Insert key (numbers.Three i j k) h = tt
with_passes Add key numbers.Nothing h = tt
with_passes Add key (numbers.One i) h = h
with_passes Add key (numbers.Two i j) h = tt
with_passes Add key (numbers.Three i j k) h = tt
with_passes Keep key numbers.Nothing h = tt
with_passes Keep key (numbers.One i) h = h
with_passes Keep key (numbers.Two i j) h = tt
with_passes Keep key (numbers.Three i j k) h = tt
with_passes Exchange key numbers.Nothing h = tt
with_passes Exchange key (numbers.One i) h = tt
with_passes Exchange key (numbers.Two i j) h = h
with_passes Exchange key (numbers.Three i j k) h = tt
with_passes Remove key numbers.Nothing h = h
with_passes Remove key (numbers.One i) h = h
with_passes Remove key (numbers.Two i j) h = tt
with_passes Remove key (numbers.Three i j k) h = tt
with_passes Take key numbers.Nothing h = h
with_passes Take key (numbers.One i) h = tt
with_passes Take key (numbers.Two i j) h = tt
with_passes Take key (numbers.Three i j k) h = tt
with_passes Look key numbers.Nothing h = h
with_passes Look key (numbers.One i) h = tt
with_passes Look key (numbers.Two i j) h = tt
with_passes Look key (numbers.Three i j k) h = tt
with_passes First key numbers.Nothing h = h
with_passes First key (numbers.One i) h = walk_passes search.First key (entries_of i) h
with_passes First key (numbers.Two i j) h = tt
with_passes First key (numbers.Three i j k) h = tt
with_passes Next key numbers.Nothing h = h
with_passes Next key (numbers.One i) h = walk_passes search.Next key (entries_of i) h
with_passes Next key (numbers.Two i j) h = tt
with_passes Next key (numbers.Three i j k) h = tt
with_passes Last key numbers.Nothing h = h
with_passes Last key (numbers.One i) h = walk_passes search.Last key (entries_of i) h
with_passes Last key (numbers.Two i j) h = tt
with_passes Last key (numbers.Three i j k) h = tt
with_passes Prev key numbers.Nothing h = h
with_passes Prev key (numbers.One i) h = walk_passes search.Prev key (entries_of i) h
with_passes Prev key (numbers.Two i j) h = tt
with_passes Prev key (numbers.Three i j k) h = tt
with_passes Pop key numbers.Nothing h = h
with_passes Pop key (numbers.One i) h = tt
with_passes Pop key (numbers.Two i j) h = tt
with_passes Pop key (numbers.Three i j k) h = tt
with_passes Fill key ns h = tt
with_passes Cut key ns h = tt
with_passes operations.Intersect key ns h = tt
with_passes Count key ns h = tt
with_passes Nth key ns h = tt
with_passes FirstEmpty key ns h = tt
with_passes NextEmpty key ns h = tt
with_passes LastEmpty key ns h = tt
with_passes PrevEmpty key ns h = tt
with_passes Free key ns h = tt

-- that which frees an array has no key
free_passes : (operation : Operation) → Passes (free_with operation str.Free)
free_passes Free = refl
free_passes Insert = tt
free_passes Add = tt
free_passes Keep = tt
free_passes Exchange = tt
free_passes Remove = tt
free_passes Take = tt
free_passes Pop = tt
free_passes Fill = tt
free_passes Cut = tt
free_passes operations.Intersect = tt
free_passes Look = tt
free_passes Count = tt
free_passes Nth = tt
free_passes First = tt
free_passes Next = tt
free_passes Last = tt
free_passes Prev = tt
free_passes FirstEmpty = tt
free_passes NextEmpty = tt
free_passes LastEmpty = tt
free_passes PrevEmpty = tt

kept : (b : Bool) (key k : List ℕ) → b ≡ is_string key → cond b (Some key) None ≡ Some k → is_string k ≡ true
kept true key k e h = let is : key ≡ k = cc in ap is_string (sym is) ∙ sym e
kept false key k e h = cc

string_passes : (o : Option (List ℕ)) (k : List ℕ) → option_and_then (λ key. cond (is_string key) (Some key) None) o ≡ Some k → is_string k ≡ true
string_passes None k h = cc
string_passes (Some key) k h = kept (is_string key) key k refl h

each_passes : {A : Type 0} (f : A → Option StrCall) (o : Option A) → ((x : A) → o ≡ Some x → Passes (f x)) → Passes (option_and_then f o)
each_passes f None all = tt
each_passes f (Some x) all = all x refl

string_call_passes : (operation : Operation) (more : List (List ℕ)) → Passes (string_call operation more)
string_call_passes operation [] = free_passes operation
string_call_passes operation (key ∷ more) =
    each_passes (λ k. option_and_then (λ ns. string_with operation k ns) (numbers_of_fields more)) (string_of key)
    (λ k is. each_passes (λ ns. string_with operation k ns) (numbers_of_fields more)
    (λ ns e. with_passes operation k ns (string_passes (key_of key) k is)))

-- ---- a request of a line

the_string : (other name : List ℕ) (o : Option StrCall) (c : StrCall)
    → option_map (λ x. request.Call x) (option_map (λ x. Str other x) o) ≡ Some (request.Call (Str name c)) → o ≡ Some c
the_string other name None c h = cc
the_string other name (Some x) c h = let is : x ≡ c = cc in ap Some is

not_auth : (command other : List ℕ) (more : List (List ℕ)) (name : List ℕ) (c : StrCall) → auth_of command other more ≡ Some (request.Call (Str name c)) → ⊥
not_auth command other [] name c h = cc
not_auth command other (token ∷ x ∷ more) name c h = cc
not_auth command other (token ∷ []) name c h = by (eq_by_cmp string_order command (codes "AUTH")) (Rattle.judy_model.specs.Grammar.is_token token) h
  where
    by : (a b : Bool) → cond a (cond b (Some (request.Auth other token)) None) None ≡ Some (request.Call (Str name c)) → ⊥
    by true true h = cc
    by true false h = cc
    by false b h = cc

-- the call that a request makes
the_call : (o : Option Call) (call : Call) → option_map (λ x. request.Call x) o ≡ Some (request.Call call) → o ≡ Some call
the_call None call h = cc
the_call (Some x) call h = let is : x ≡ call = cc in ap Some is

-- nor does a word list arrays
not_names : (field : List ℕ) (more : List (List ℕ)) (name : List ℕ) (c : StrCall)
    → option_map (λ x. request.Call x) (names_call field more) ≡ Some (request.Call (Str name c)) → ⊥
not_names field more name c h =
    let (from, k, is) = names_made field more (Str name c) (the_call (names_call field more) (Str name c) h) in
    unlike from k is
  where
    unlike : (from : ArraysFrom) (k : ℕ) → Names from k ≡ Str name c → ⊥
    unlike from k is = cc

not_other : (word field : List ℕ) (more : List (List ℕ)) (name : List ℕ) (c : StrCall)
    → other_request word field more ≡ Some (request.Call (Str name c)) → ⊥
not_other word field more name c h = by (eq_by_cmp string_order word (codes "NAMES")) h
  where
    by : (b : Bool) → cond b (option_map (λ x. request.Call x) (names_call field more)) (auth_of word field more) ≡ Some (request.Call (Str name c)) → ⊥
    by true e = not_names field more name c e
    by false e = not_auth word field more name c e

-- the number of a command's kind
abbrev kind_of_command : Option Command → ℕ
kind_of_command None = 4
kind_of_command (Some command) = kind_number command.kind

-- a command that makes a call of a JudySL is one of that kind
is_of_strings : (k : Kind) (operation : Operation) (other : List ℕ) (more : List (List ℕ)) (name : List ℕ) (c : StrCall)
    → option_map (λ x. request.Call x) (call_by k operation other more) ≡ Some (request.Call (Str name c)) → kind_number k ≡ 2
is_of_strings k operation other more name c h =
    sym (ap kind_of_command (made_call k operation other more (Str name c) (the_call (call_by k operation other more) (Str name c) h)))

-- a request of an array
request_passes : (c : Command) (other : List ℕ) (more : List (List ℕ)) (name : List ℕ) (call : StrCall)
    → option_map (λ x. request.Call x) (call_by c.kind c.operation other more) ≡ Some (request.Call (Str name call)) → has_key_string call ≡ true
request_passes c other more name call = by c.kind
  where
    by : (k : Kind) → option_map (λ x. request.Call x) (call_by k c.operation other more) ≡ Some (request.Call (Str name call)) → has_key_string call ≡ true
    by kind.One h = let two = is_of_strings kind.One c.operation other more name call h in absurd (omega (arith, two))
    by kind.Long h = let two = is_of_strings kind.Long c.operation other more name call h in absurd (omega (arith, two))
    by kind.Str h = subst Passes (the_string other name (string_call c.operation more) call h) (string_call_passes c.operation more)
    by kind.Bytes h = let two = is_of_strings kind.Bytes c.operation other more name call h in absurd (omega (arith, two))

fields_pass : (fields : List (List ℕ)) (name : List ℕ) (c : StrCall) → request_of_fields fields ≡ Some (request.Call (Str name c)) → has_key_string c ≡ true
fields_pass [] name c h = cc
fields_pass (command ∷ []) name c h = by (eq_by_cmp string_order command (codes "QUIT")) (eq_by_cmp string_order command (codes "USED"))
    (eq_by_cmp string_order command (codes "PING")) (eq_by_cmp string_order command (codes "HELLO")) h
  where
    by : (quit used ping hello : Bool)
        → cond quit (Some request.Quit) (cond used (Some (request.Call Used)) (cond ping (Some request.Ping) (cond hello (Some request.Hello) None)))
        ≡ Some (request.Call (Str name c)) → has_key_string c ≡ true
    by true used ping hello h = cc
    by false true ping hello h = cc
    by false false true hello h = cc
    by false false false true h = cc
    by false false false false h = cc
fields_pass (command ∷ other ∷ more) name c h = by (is_name other) h
  where
    by_row : (o : Option Command) → request_by o command other more ≡ Some (request.Call (Str name c)) → has_key_string c ≡ true
    by_row None h = absurd (not_other command other more name c h)
    by_row (Some row) h = request_passes row other more name c h

    by : (a : Bool) → cond a (named_request command other more) None ≡ Some (request.Call (Str name c)) → has_key_string c ≡ true
    by true h = by_row (at_command command commands) h
    by false h = cc

-- if a call that a line asks for is one of a JudySL, it has a string as its key
pub asked_string : (call : Call) → IsAsked call → IsTrue (has_string call)
asked_string (One name c) asked = refl
asked_string (Long name c) asked = refl
asked_string (Str name c) (line, is) = fields_pass (fields_of line) name c is
asked_string (Bytes name c) asked = refl
asked_string (Intersect name other i n) asked = refl
asked_string (Names from n) asked = refl
asked_string Used asked = refl

-- ---- speakers

-- the tenant of a speaker who may speak is in the table
pub known_tenant : (tenants : List Tenant) (who : Speaker) → IsKnown (knows tenants) who → who.tenant < length tenants
known_tenant tenants who known = let (row, is, named, place) = knows-place tenants who known in place

-- a speaker who logs in may speak
pub let_in : (name token : List ℕ) (tenants : List Tenant) (o : Option Guest) → option_map seen o ≡ login_of name token tenants
    → IfSome o (λ s. IsKnown (knows tenants) (seen s))
let_in name token tenants None h = tt
let_in name token tenants (Some s) h = login-knows name token tenants (seen s) (sym h)
