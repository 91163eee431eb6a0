-- A call that a command makes is of that command.
use Rattle.std.proofs.Common.{◌≡◌, ◌⊎◌, inl, inr, ℕ, Bool, true, false, cond, List, [], ◌∷◌, refl, ap, ◌∙◌, sym, subst, Option, Some, None}
use Rattle.std.specs.Prelude.{IfSome, option_map, option_and_then}
use Rattle.judy_model.specs.ArrayLists.{kind_named}
use Rattle.judy_model.specs.declared.calls.ArraysFrom.{ArraysFrom}
use Rattle.judy_model.specs.declared.calls.ArraysFrom.TheVariants as start
use Rattle.judy_model.specs.declared.calls.BytesCall.TheVariants as bytes
use Rattle.judy_model.specs.declared.calls.Call.{Call}
use Rattle.judy_model.specs.declared.calls.Call.TheVariants.{One, Long, Str, Bytes}
use Rattle.judy_model.specs.declared.calls.Call.TheVariants as calls
use Rattle.judy_model.specs.declared.calls.LongCall.TheVariants as long
use Rattle.judy_model.specs.declared.calls.OneCall.TheVariants as one
use Rattle.judy_model.specs.declared.calls.Search.TheVariants as search
use Rattle.judy_model.specs.declared.calls.StrCall.TheVariants as str
use Rattle.judy_model.specs.declared.commands.Kind.{Kind}
use Rattle.judy_model.specs.declared.commands.Kind.TheVariants as kind
use Rattle.judy_model.specs.declared.commands.Numbers.{Numbers}
use Rattle.judy_model.specs.declared.commands.Numbers.TheVariants as numbers
use Rattle.judy_model.specs.declared.commands.Operation.{Operation}
use Rattle.judy_model.specs.declared.commands.Operation.TheVariants.{Insert, Add, Keep, Exchange, Remove, Take, Look, Count, Nth, First, Next, Last, Prev, Free, Pop, Fill, Cut, Intersect}
use Rattle.judy_model.specs.declared.commands.Operation.TheVariants.{FirstEmpty, NextEmpty, LastEmpty, PrevEmpty}
use Rattle.judy_model.specs.Commands.{bytes_operation, bytes_with, entries_of, command_of, first_keys, free_with, long_operation, long_with, one_operation, one_with}
use Rattle.judy_model.specs.Commands.{string_operation, string_with, to}
use Rattle.judy_model.specs.Grammar.{begins_walk, bytes_call, call_by, first_keys_call, intersection_call, intersection_with, is_name, key_of, long_call, names_another, names_behind, names_call, names_with, numbers_of_fields, one_call, string_call, string_of}

-- the call, if there is one, is of this operation
abbrev IsOf : {C : Type 0} → (C → Operation) → Operation → Option C → Type 0
IsOf operation_of operation o = IfSome o (λ c. operation_of c ≡ operation)

-- ---- by the numbers of a call

walked_made : {C : Type 0} (operation_of : C → Operation) (operation : Operation) (call : ℕ → C) (o : Option ℕ)
    → ((k : ℕ) → operation_of (call k) ≡ operation) → IsOf operation_of operation (option_map call o)
walked_made operation_of operation call None all = tt
walked_made operation_of operation call (Some k) all = all k

one_made : (operation : Operation) (ns : Numbers) → IsOf one_operation operation (one_with operation ns)
one_made Insert (numbers.One i) = refl
one_made Remove (numbers.One i) = refl
one_made Look (numbers.One i) = refl
one_made Nth (numbers.One i) = refl
one_made First (numbers.One i) = refl
one_made Next (numbers.One i) = refl
one_made Last (numbers.One i) = refl
one_made Prev (numbers.One i) = refl
one_made FirstEmpty (numbers.One i) = refl
one_made NextEmpty (numbers.One i) = refl
one_made LastEmpty (numbers.One i) = refl
one_made PrevEmpty (numbers.One i) = refl
one_made Count (numbers.Two i j) = refl
one_made Pop (numbers.Two i j) = refl
one_made Fill (numbers.One i) = refl
one_made Cut (numbers.Three i j n) = walked_made one_operation Cut (λ k. one.Cut i j k) (entries_of n) (λ k. refl)
one_made Free numbers.Nothing = refl
one_made First (numbers.Two i n) = walked_made one_operation First (λ k. one.Walk search.First i k) (entries_of n) (λ k. refl)
one_made Next (numbers.Two i n) = walked_made one_operation Next (λ k. one.Walk search.Next i k) (entries_of n) (λ k. refl)
one_made Last (numbers.Two i n) = walked_made one_operation Last (λ k. one.Walk search.Last i k) (entries_of n) (λ k. refl)
one_made Prev (numbers.Two i n) = walked_made one_operation Prev (λ k. one.Walk search.Prev i k) (entries_of n) (λ k. refl)
one_made FirstEmpty (numbers.Two i n) = walked_made one_operation FirstEmpty (λ k. one.WalkEmpty search.First i k) (entries_of n) (λ k. refl)
one_made NextEmpty (numbers.Two i n) = walked_made one_operation NextEmpty (λ k. one.WalkEmpty search.Next i k) (entries_of n) (λ k. refl)
one_made LastEmpty (numbers.Two i n) = walked_made one_operation LastEmpty (λ k. one.WalkEmpty search.Last i k) (entries_of n) (λ k. refl)
one_made PrevEmpty (numbers.Two i n) = walked_made one_operation PrevEmpty (λ k. one.WalkEmpty search.Prev i k) (entries_of n) (λ k. refl)
one_made _ _ = tt

long_made : (operation : Operation) (ns : Numbers) → IsOf long_operation operation (long_with operation ns)
long_made Insert (numbers.One i) = refl
long_made Remove (numbers.One i) = refl
long_made Look (numbers.One i) = refl
long_made Nth (numbers.One i) = refl
long_made First (numbers.One i) = refl
long_made Next (numbers.One i) = refl
long_made Last (numbers.One i) = refl
long_made Prev (numbers.One i) = refl
long_made FirstEmpty (numbers.One i) = refl
long_made NextEmpty (numbers.One i) = refl
long_made LastEmpty (numbers.One i) = refl
long_made PrevEmpty (numbers.One i) = refl
long_made Insert (numbers.Two i j) = refl
long_made Add (numbers.Two i j) = refl
long_made Count (numbers.Two i j) = refl
long_made Keep (numbers.Two i j) = refl
long_made Exchange (numbers.Three i j k) = refl
long_made Remove (numbers.Two i j) = refl
long_made Take (numbers.One i) = refl
long_made Pop (numbers.Two i j) = refl
long_made Fill (numbers.Two i j) = refl
long_made Cut (numbers.Three i j n) = walked_made long_operation Cut (λ k. long.Cut i j k) (entries_of n) (λ k. refl)
long_made Free numbers.Nothing = refl
long_made First (numbers.Two i n) = walked_made long_operation First (λ k. long.Walk search.First i k) (entries_of n) (λ k. refl)
long_made Next (numbers.Two i n) = walked_made long_operation Next (λ k. long.Walk search.Next i k) (entries_of n) (λ k. refl)
long_made Last (numbers.Two i n) = walked_made long_operation Last (λ k. long.Walk search.Last i k) (entries_of n) (λ k. refl)
long_made Prev (numbers.Two i n) = walked_made long_operation Prev (λ k. long.Walk search.Prev i k) (entries_of n) (λ k. refl)
long_made FirstEmpty (numbers.Two i n) = walked_made long_operation FirstEmpty (λ k. long.WalkEmpty search.First i k) (entries_of n) (λ k. refl)
long_made NextEmpty (numbers.Two i n) = walked_made long_operation NextEmpty (λ k. long.WalkEmpty search.Next i k) (entries_of n) (λ k. refl)
long_made LastEmpty (numbers.Two i n) = walked_made long_operation LastEmpty (λ k. long.WalkEmpty search.Last i k) (entries_of n) (λ k. refl)
long_made PrevEmpty (numbers.Two i n) = walked_made long_operation PrevEmpty (λ k. long.WalkEmpty search.Prev i k) (entries_of n) (λ k. refl)
long_made _ _ = tt

string_made : (operation : Operation) (key : List ℕ) (ns : Numbers) → IsOf string_operation operation (string_with operation key ns)
string_made Insert key numbers.Nothing = refl
string_made Remove key numbers.Nothing = refl
string_made Look key numbers.Nothing = refl
string_made First key numbers.Nothing = refl
string_made Next key numbers.Nothing = refl
string_made Last key numbers.Nothing = refl
string_made Prev key numbers.Nothing = refl
string_made Insert key (numbers.One i) = refl
string_made Add key (numbers.One i) = refl
string_made Keep key (numbers.One i) = refl
string_made Exchange key (numbers.Two i j) = refl
string_made Remove key (numbers.One i) = refl
string_made Take key numbers.Nothing = refl
string_made Pop key numbers.Nothing = refl
string_made First key (numbers.One n) = walked_made string_operation First (λ k. str.Walk search.First key k) (entries_of n) (λ k. refl)
string_made Next key (numbers.One n) = walked_made string_operation Next (λ k. str.Walk search.Next key k) (entries_of n) (λ k. refl)
string_made Last key (numbers.One n) = walked_made string_operation Last (λ k. str.Walk search.Last key k) (entries_of n) (λ k. refl)
string_made Prev key (numbers.One n) = walked_made string_operation Prev (λ k. str.Walk search.Prev key k) (entries_of n) (λ k. refl)
string_made _ key _ = tt

bytes_made : (operation : Operation) (key : List ℕ) (ns : Numbers) → IsOf bytes_operation operation (bytes_with operation key ns)
bytes_made Insert key numbers.Nothing = refl
bytes_made Remove key numbers.Nothing = refl
bytes_made Look key numbers.Nothing = refl
bytes_made Insert key (numbers.One i) = refl
bytes_made Add key (numbers.One i) = refl
bytes_made Keep key (numbers.One i) = refl
bytes_made Exchange key (numbers.Two i j) = refl
bytes_made Remove key (numbers.One i) = refl
bytes_made Take key numbers.Nothing = refl
bytes_made Next key (numbers.One n) = walked_made bytes_operation Next (λ k. bytes.Next key k) (entries_of n) (λ k. refl)
bytes_made _ key _ = tt

first_keys_made : (ns : Numbers) → IsOf bytes_operation First (first_keys ns)
first_keys_made (numbers.One n) = walked_made bytes_operation First (λ k. bytes.First k) (entries_of n) (λ k. refl)
first_keys_made _ = tt

free_made : {C : Type 0} (operation_of : C → Operation) (operation : Operation) (call : C) → operation_of call ≡ Free
    → IsOf operation_of operation (free_with operation call)
free_made operation_of Free call is = is
free_made operation_of _ call is = tt

-- ---- by its fields

then_made : {A C : Type 0} (operation_of : C → Operation) (operation : Operation) (f : A → Option C) (o : Option A)
    → ((x : A) → IsOf operation_of operation (f x)) → IsOf operation_of operation (option_and_then f o)
then_made operation_of operation f None all = tt
then_made operation_of operation f (Some x) all = all x

string_call_made : (operation : Operation) (more : List (List ℕ)) → IsOf string_operation operation (string_call operation more)
string_call_made operation [] = free_made string_operation operation str.Free refl
string_call_made operation (key ∷ more) =
    then_made string_operation operation (λ k. option_and_then (λ ns. string_with operation k ns) (numbers_of_fields more)) (string_of key)
    (λ k. then_made string_operation operation (λ ns. string_with operation k ns) (numbers_of_fields more) (string_made operation k))

bytes_call_made : (operation : Operation) (more : List (List ℕ)) → IsOf bytes_operation operation (bytes_call operation more)
bytes_call_made operation [] = free_made bytes_operation operation bytes.Free refl
bytes_call_made operation (key ∷ more) =
    then_made bytes_operation operation (λ k. option_and_then (λ ns. bytes_with operation k ns) (numbers_of_fields more)) (key_of key)
    (λ k. then_made bytes_operation operation (λ ns. bytes_with operation k ns) (numbers_of_fields more) (bytes_made operation k))

in_call : {C : Type 0} (operation_of : C → Operation) (kind : Kind) (operation : Operation) (f : C → Call) (o : Option C) (call : Call)
    → ((c : C) → command_of (f c) ≡ Some (to kind (operation_of c))) → IsOf operation_of operation o → option_map f o ≡ Some call
    → command_of call ≡ Some (to kind operation)
in_call operation_of kind operation f None call same is e = cc
in_call operation_of kind operation f (Some c) call same is e =
    let call_is : f c ≡ call = cc in
    ap command_of (sym call_is) ∙ same c ∙ ap (λ x. Some (to kind x)) is

-- an intersection is of the command that makes it
intersection_made : (name : List ℕ) (more : List (List ℕ)) (call : Call) → intersection_call name more ≡ Some call
    → command_of call ≡ Some (to kind.One Intersect)
intersection_made name [] call e = cc
intersection_made name (other ∷ more) call e = by_name (is_name other) e
  where
    by_numbers : (o : Option Numbers) → option_and_then (λ ns. intersection_with name other ns) o ≡ Some call
        → command_of call ≡ Some (to kind.One Intersect)
    by_numbers None h = cc
    by_numbers (Some numbers.Nothing) h = cc
    by_numbers (Some (numbers.One i)) h = cc
    by_numbers (Some (numbers.Two i n)) h = by_most (entries_of n) h
      where
        by_most : (o : Option ℕ) → option_map (λ most. calls.Intersect name other i most) o ≡ Some call → command_of call ≡ Some (to kind.One Intersect)
        by_most None h = cc
        by_most (Some most) h = let call_is : calls.Intersect name other i most ≡ call = cc in ap command_of (sym call_is)
    by_numbers (Some (numbers.Three i j k)) h = cc

    by_name : (b : Bool) → cond b (option_and_then (λ ns. intersection_with name other ns) (numbers_of_fields more)) None ≡ Some call
        → command_of call ≡ Some (to kind.One Intersect)
    by_name true h = by_numbers (numbers_of_fields more) h
    by_name false h = cc

-- an operation that names another set is the intersection
another_is : (operation : Operation) → names_another operation ≡ true → operation ≡ Intersect
another_is Intersect e = refl
another_is _ e = cc

-- a call of a set, or an intersection
set_call_made : (operation : Operation) (name : List ℕ) (more : List (List ℕ)) (call : Call)
    → call_by kind.One operation name more ≡ Some call → command_of call ≡ Some (to kind.One operation)
set_call_made operation name more call e = by (names_another operation) refl e
  where
    by : (b : Bool) → names_another operation ≡ b
        → cond b (intersection_call name more) (option_map (λ c. One name c) (one_call operation more)) ≡ Some call
        → command_of call ≡ Some (to kind.One operation)
    by true is h = intersection_made name more call h ∙ ap (λ x. Some (to kind.One x)) (sym (another_is operation is))
    by false is h = in_call one_operation kind.One operation (λ c. One name c) (one_call operation more) call (λ c. refl)
        (then_made one_operation operation (λ ns. one_with operation ns) (numbers_of_fields more) (one_made operation)) h

-- an operation that begins a walk over byte keys is the search for the first
beginning_is : (operation : Operation) → begins_walk operation ≡ true → operation ≡ First
beginning_is First e = refl
beginning_is _ e = cc

-- a call of a JudyHS
bytes_kind_made : (operation : Operation) (name : List ℕ) (more : List (List ℕ)) (call : Call)
    → call_by kind.Bytes operation name more ≡ Some call → command_of call ≡ Some (to kind.Bytes operation)
bytes_kind_made operation name more call e =
    in_call bytes_operation kind.Bytes operation (λ c. Bytes name c) _ call (λ c. refl) (by (begins_walk operation) refl) e
  where
    by : (b : Bool) → begins_walk operation ≡ b → IsOf bytes_operation operation (cond b (first_keys_call more) (bytes_call operation more))
    by true is = subst (λ o. IsOf bytes_operation o (first_keys_call more)) (sym (beginning_is operation is))
        (then_made bytes_operation First first_keys (numbers_of_fields more) first_keys_made)
    by false is = bytes_call_made operation more

pub made_call : (kind : Kind) (operation : Operation) (name : List ℕ) (more : List (List ℕ)) (call : Call)
    → call_by kind operation name more ≡ Some call → command_of call ≡ Some (to kind operation)
made_call kind.One operation name more call = set_call_made operation name more call
made_call kind.Long operation name more call = in_call long_operation kind.Long operation (λ c. Long name c) (long_call operation more) call (λ c. refl)
    (then_made long_operation operation (λ ns. long_with operation ns) (numbers_of_fields more) (long_made operation))
made_call kind.Str operation name more call = in_call string_operation kind.Str operation (λ c. Str name c) (string_call operation more) call (λ c. refl)
    (string_call_made operation more)
made_call kind.Bytes operation name more call = bytes_kind_made operation name more call

-- ---- lists of arrays

-- the result of a step, if the step before gave a value
pub from_value : {A B : Type 0} (f : A → Option B) (o : Option A) (y : B) → option_and_then f o ≡ Some y → (x : A) × (o ≡ Some x) × (f x ≡ Some y)
from_value f (Some x) y h = (x, refl, h)
from_value f None y h = cc

-- the value before a map, from the value after it
pub from_map : {A B : Type 0} (f : A → B) (o : Option A) (y : B) → option_map f o ≡ Some y → (x : A) × (o ≡ Some x) × (f x ≡ y)
from_map f (Some x) y h = (x, refl, cc)
from_map f None y h = cc

-- the branch that gave a value
pub from_if : {A : Type 0} (b : Bool) (x y : Option A) (v : A) → cond b x y ≡ Some v → ((b ≡ true) × (x ≡ Some v)) ⊎ ((b ≡ false) × (y ≡ Some v))
from_if true x y v h = inl (refl, h)
from_if false x y v h = inr (refl, h)

-- a call that lists arrays is one
pub names_made : (field : List ℕ) (more : List (List ℕ)) (call : Call) → names_call field more ≡ Some call
    → (from : ArraysFrom) × (k : ℕ) × (calls.Names from k ≡ call)
names_made field [] call h = let (k, found, same) = from_map (λ k. calls.Names start.First k) _ call h in (start.First, k, same)
names_made field (name ∷ []) call h = cc
names_made field (name ∷ number ∷ []) call h =
    let (kind, is, made) = from_value (λ k. names_behind k name number) (kind_named field) call h in
    elim (from_if (is_name name) (names_with (start.Behind kind name) number) None call made) [
      | inl hit ↦ let (k, found, same) = from_map (λ k. calls.Names (start.Behind kind name) k) _ call hit.1 in (start.Behind kind name, k, same)
      | inr out ↦ absurd (let none : None ≡ Some call = out.1 in cc)
    ]
names_made field (name ∷ number ∷ e ∷ more) call h = cc
