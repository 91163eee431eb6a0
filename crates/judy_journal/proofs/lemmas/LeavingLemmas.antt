-- The record of tenants that left is read as it is written.
--     gone_is_read         it has the names that it was written with
--     gone_tells_no_call   it tells no call
--     gone_pushed          one more name
use Rattle.std.proofs.Common.{◌≡◌, ℕ, Bool, true, false, cond, List, [], ◌∷◌, ◌++◌, Option, Some, None, refl, ◌∙◌, ap, arith, append_assoc}
use Rattle.std.specs.Prelude.{codes, option_map, ◌&&◌}
use Rattle.std.specs.List.{list_all}
use Rattle.std.proofs.lemmas.Bool.{and_from, and_parts}
use Rattle.std.proofs.lemmas.Slice.Eq.{bytes_eq-Decides}
use Rattle.judy_model.specs.declared.calls.Call.{Call}
use Rattle.judy_model.specs.declared.requests.Line.{Line}
use Rattle.judy_model.specs.Grammar.{EndsField, HasFields, IsField, fields_of, is_name}
use Rattle.judy_model.specs.Reading.{named_request, request_of, request_of_fields}
use Rattle.judy_model.proofs.lemmas.FieldLemmas.{HasFields-fields_of}
use Rattle.judy_protocol.specs.Plain.{spaced_more}
use Rattle.judy_journal.specs.Journals.{record_of}
use Rattle.judy_journal.specs.Leaving.{gone_in, gone_of, gone_request}
use Rattle.judy_journal.specs.Replays.{change_in, told, told_in}
use Rattle.judy_journal.proofs.lemmas.ReplayLemmas.{name_has_no_space, parts_of-record_of}

-- a name is a field
field-of : (name : List ℕ) → is_name name ≡ true → IsField name
field-of [] good = cc
field-of (b ∷ name) good = (omega arith, name_has_no_space (b ∷ name) good)

-- what follows a field begins with a space, or is nothing
ends : (names : List (List ℕ)) → EndsField (spaced_more names)
ends [] = tt
ends (n ∷ names) = refl

-- names behind spaces are fields
names-fields : (names : List (List ℕ)) → list_all is_name names ≡ true → HasFields (spaced_more names) names
names-fields [] good = refl
names-fields (n ∷ names) good =
    let (first, others) = and_parts (is_name n) (list_all is_name names) good in
    (32 ∷ [], spaced_more names, refl, refl, field-of n first, ends names, names-fields names others)

-- the fields of what stands behind the first name
request-fields : (others : List (List ℕ)) → list_all is_name others ≡ true → fields_of (gone_request others) ≡ codes "GONE" ∷ others
request-fields others good =
    HasFields-fields_of (gone_request others) (codes "GONE" ∷ others)
    ([], spaced_more others, refl, refl, (omega arith, refl), ends others, names-fields others good)

-- the fields of the record
record-fields : (first : List ℕ) (others : List (List ℕ)) → is_name first ≡ true → list_all is_name others ≡ true
    → fields_of (record_of first (gone_request others)) ≡ first ∷ codes "GONE" ∷ others
record-fields first others good all =
    HasFields-fields_of (record_of first (gone_request others)) (first ∷ codes "GONE" ∷ others) (
      [],
      32 ∷ gone_request others,
      refl,
      refl,
      field-of first good,
      refl,
      (32 ∷ [], spaced_more others, refl, refl, (omega arith, refl), ends others, names-fields others all),
    )

-- it has the names that it was written with
pub gone_is_read : (first : List ℕ) (others : List (List ℕ)) → is_name first ≡ true → list_all is_name others ≡ true
    → gone_in (record_of first (gone_request others)) ≡ Some (first ∷ others)
gone_is_read first others good all =
    ap gone_of (record-fields first others good all)
    ∙ ap (λ b. cond (b && list_all is_name (first ∷ others)) (Some (first ∷ others)) None) ((bytes_eq-Decides (codes "GONE") (codes "GONE")).1 refl)
    ∙ ap (λ b. cond b (Some (first ∷ others)) None) (and_from (is_name first) (list_all is_name others) good all)

-- no request begins with its word
no-request : (others : List (List ℕ)) → request_of_fields (codes "GONE" ∷ others) ≡ None
no-request [] = refl
no-request (name ∷ more) = by (is_name name)
  where
    none : (more : List (List ℕ)) → named_request (codes "GONE") name more ≡ None
    none [] = refl
    none (a ∷ []) = refl
    none (a ∷ b ∷ more) = refl

    by : (b : Bool) → cond b (named_request (codes "GONE") name more) None ≡ None
    by true = none more
    by false = refl

-- it tells no call
pub gone_tells_no_call : (first : List ℕ) (others : List (List ℕ)) → is_name first ≡ true → list_all is_name others ≡ true
    → told (record_of first (gone_request others)) ≡ None
gone_tells_no_call first others good all =
    ap told_in (parts_of-record_of first (gone_request others) (name_has_no_space first good))
    ∙ ap (λ b. cond b (option_map (λ (c : Call). record { name = first; call = c }) (change_in (request_of (gone_request others)))) None) good
    ∙ ap (λ (o : Option Line). option_map (λ (c : Call). record { name = first; call = c }) (change_in o))
    (ap request_of_fields (request-fields others all) ∙ no-request others)

-- one more name
pub gone_pushed : (others : List (List ℕ)) (name : List ℕ) → gone_request others ++ 32 ∷ name ≡ gone_request (others ++ name ∷ [])
gone_pushed others name = append_assoc (codes "GONE") (spaced_more others) (32 ∷ name) ∙ ap (λ x. codes "GONE" ++ x) (more others)
  where
    more : (others : List (List ℕ)) → spaced_more others ++ 32 ∷ name ≡ spaced_more (others ++ name ∷ [])
    more [] = ap (λ x. 32 ∷ x) (nothing name)
      where
        nothing : (bytes : List ℕ) → bytes ≡ bytes ++ []
        nothing [] = refl
        nothing (b ∷ bytes) = ap (λ x. b ∷ x) (nothing bytes)
    more (n ∷ others) = ap (λ x. 32 ∷ x) (append_assoc n (spaced_more others) (32 ∷ name) ∙ ap (λ x. n ++ x) (more others))
