-- A line with one space between its fields.
--     short-request    it spells the same request
--     short-length     it is no longer
--     short-plain      it has no line feed if the line has none
use Rattle.std.proofs.Common.{◌≡◌, ℕ, ◌≤◌, ◌+◌, Bool, true, false, not, ◌&&◌, List, [], ◌∷◌, ◌++◌, length, refl, sym, ◌∙◌, ap, subst, arith}
use Rattle.std.proofs.lemmas.List.{length-append}
use Rattle.std.specs.Prelude.{◌==◌}
use Rattle.std.specs.List.{list_all}
use Rattle.judy_model.specs.Grammar.{is_space, EndsField, HasFields, IsField, fields_of}
use Rattle.judy_model.specs.Reading.{request_of, request_of_fields}
use Rattle.judy_model.proofs.lemmas.FieldLemmas.{HasFields-fields_of, fields_of-HasFields}
use Rattle.judy_protocol.specs.Plain.{spaced, spaced_more, short_line}
use Rattle.judy_protocol.specs.Talks.{HasNoLf}

-- each of these is a field
abbrev AreFields : List (List ℕ) → Type 0
AreFields [] = Unit {0}
AreFields (field ∷ fields) = IsField field × AreFields fields

fields_are : (line : List ℕ) (fields : List (List ℕ)) → HasFields line fields → AreFields fields
fields_are line [] h = tt
fields_are line (field ∷ fields) h = (h.4, fields_are h.1 fields h.6)

-- ---- the same fields

ends_more : (fields : List (List ℕ)) → EndsField (spaced_more fields)
ends_more [] = tt
ends_more (field ∷ fields) = refl

has_more : (fields : List (List ℕ)) → AreFields fields → HasFields (spaced_more fields) fields
has_more [] h = refl
has_more (field ∷ fields) h = (32 ∷ [], spaced_more fields, refl, refl, h.0, ends_more fields, has_more fields h.1)

has_spaced : (fields : List (List ℕ)) → AreFields fields → HasFields (spaced fields) fields
has_spaced [] h = refl
has_spaced (field ∷ fields) h = ([], spaced_more fields, refl, refl, h.0, ends_more fields, has_more fields h.1)

pub short-request : (line : List ℕ) → request_of (short_line line) ≡ request_of line
short-request line =
    ap request_of_fields (HasFields-fields_of (short_line line) (fields_of line)
    (has_spaced (fields_of line) (fields_are line (fields_of line) (fields_of-HasFields line))))

-- ---- no longer

-- behind a field comes at least one space before the next one
some_space : (spaces field rest line : List ℕ) → line ≡ spaces ++ (field ++ rest) → EndsField line → IsField field → 1 ≤ length spaces
some_space (b ∷ spaces) field rest line e ends is = omega arith
some_space [] [] rest line e ends is = absurd (let few = is.0 in omega (arith, few))
some_space [] (b ∷ bs) rest line e ends is = absurd (apart (is_space b) (subst EndsField e ends) is.1)
  where
    apart : (v : Bool) → v ≡ true → (not v && list_all (λ c. not (is_space c)) bs) ≡ true → ⊥
    apart true h k = cc
    apart false h k = cc

more_short : (line : List ℕ) (fields : List (List ℕ)) → HasFields line fields → EndsField line → length (spaced_more fields) ≤ length line
more_short line [] h ends = omega arith
more_short line (field ∷ fields) h ends =
    let space = some_space h.0 field h.1 line h.2 ends h.4 in
    let rest = more_short h.1 fields h.6 h.5 in
    let whole = ap length h.2 ∙ length-append h.0 (field ++ h.1) in
    let part = length-append field h.1 in
    let made = length-append field (spaced_more fields) in
    omega (arith, space, rest, whole, part, made)

pub spaced-length : (line : List ℕ) (fields : List (List ℕ)) → HasFields line fields → length (spaced fields) ≤ length line
spaced-length line [] h = omega arith
spaced-length line (field ∷ fields) h =
    let rest = more_short h.1 fields h.6 h.5 in
    let whole = ap length h.2 ∙ length-append h.0 (field ++ h.1) in
    let part = length-append field h.1 in
    let made = length-append field (spaced_more fields) in
    omega (arith, rest, whole, part, made)

pub short-length : (line : List ℕ) → length (short_line line) ≤ length line
short-length line = spaced-length line (fields_of line) (fields_of-HasFields line)

-- the first field is no longer than the line
pub first-length : (line field : List ℕ) (fields : List (List ℕ)) → fields_of line ≡ field ∷ fields → length field ≤ length line
first-length line field fields e =
    let whole = ap (λ fs. length (spaced fs)) e ∙ length-append field (spaced_more fields) in
    let short = short-length line in
    omega (arith, whole, short)

-- the part of a short line that is made, with its next field, is no longer than the line
pub part-length : (line made field : List ℕ) (fields : List (List ℕ)) → made ++ spaced_more (field ∷ fields) ≡ short_line line
    → length made + 1 + length field ≤ length line
part-length line made field fields e =
    let whole = sym (ap length e) ∙ length-append made (spaced_more (field ∷ fields)) in
    let more = length-append field (spaced_more fields) in
    let short = short-length line in
    omega (arith, whole, more, short)

-- ---- no line feed

both : (a b : Bool) → a ≡ true → b ≡ true → (a && b) ≡ true
both true true h k = refl
both true false h k = cc
both false b h k = cc

left : (a b : Bool) → (a && b) ≡ true → a ≡ true
left true b h = refl
left false b h = cc

right : (a b : Bool) → (a && b) ≡ true → b ≡ true
right true b h = h
right false b h = cc

module _ (test : ℕ → Bool) where
  all_more : (xs ys : List ℕ) → list_all test xs ≡ true → list_all test ys ≡ true → list_all test (xs ++ ys) ≡ true
  all_more [] ys h k = k
  all_more (x ∷ xs) ys h k = both _ _ (left (test x) _ h) (all_more xs ys (right (test x) _ h) k)

  all_first : (xs ys : List ℕ) → list_all test (xs ++ ys) ≡ true → list_all test xs ≡ true
  all_first [] ys h = refl
  all_first (x ∷ xs) ys h = both _ _ (left (test x) _ h) (all_first xs ys (right (test x) _ h))

  all_last : (xs ys : List ℕ) → list_all test (xs ++ ys) ≡ true → list_all test ys ≡ true
  all_last [] ys h = h
  all_last (x ∷ xs) ys h = all_last xs ys (right (test x) _ h)

  more_pass : (line : List ℕ) (fields : List (List ℕ)) → test 32 ≡ true → HasFields line fields → list_all test line ≡ true
      → list_all test (spaced_more fields) ≡ true
  more_pass line [] space h pass = refl
  more_pass line (field ∷ fields) space h pass =
      let behind = all_last h.0 (field ++ h.1) (subst (λ l. list_all test l ≡ true) h.2 pass) in
      both _ _ space (all_more field (spaced_more fields) (all_first field h.1 behind)
      (more_pass h.1 fields space h.6 (all_last field h.1 behind)))

  spaced_pass : (line : List ℕ) (fields : List (List ℕ)) → test 32 ≡ true → HasFields line fields → list_all test line ≡ true
      → list_all test (spaced fields) ≡ true
  spaced_pass line [] space h pass = refl
  spaced_pass line (field ∷ fields) space h pass =
      let behind = all_last h.0 (field ++ h.1) (subst (λ l. list_all test l ≡ true) h.2 pass) in
      all_more field (spaced_more fields) (all_first field h.1 behind) (more_pass h.1 fields space h.6 (all_last field h.1 behind))

pub short-plain : (line : List ℕ) → HasNoLf line → HasNoLf (short_line line)
short-plain line h = spaced_pass (λ b. not (b == 10)) line (fields_of line) refl (fields_of-HasFields line) h
