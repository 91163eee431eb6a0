-- The fields of a line, cut at spaces, are its longest runs of other bytes.
use Rattle.std.proofs.Common.{◌≡◌, ℕ, ◌<◌, Bool, true, false, not, List, [], ◌∷◌, ◌++◌, length, refl, sym, ◌∙◌, ap, subst, arith}
use Rattle.std.specs.Prelude.{IsTrue, filter}
use Rattle.std.specs.List.{list_all, slice_split, onto_first}
use Rattle.std.proofs.lemmas.Bool.{not-true}
use Rattle.judy_model.specs.Grammar.{is_space, is_filled, AreSpaces, EndsField, HasFields, fields_of}
use Rattle.judy_model.proofs.lemmas.TestLemmas.{and_left, and_right}

-- the parts that are not empty
abbrev filled : List (List ℕ) → List (List ℕ)
filled parts = filter is_filled parts

-- the parts between spaces
split : List ℕ → List (List ℕ)
split = slice_split is_space

-- spaces in front change nothing
after_spaces : (spaces rest : List ℕ) → AreSpaces spaces → fields_of (spaces ++ rest) ≡ fields_of rest
after_spaces [] rest h = refl
after_spaces (b ∷ bs) rest h = rw (and_left (is_space b) _ h) (after_spaces bs rest (and_right (is_space b) _ h))

-- at the end of a field the split begins a new part
ends : (rest : List ℕ) → EndsField rest → (parts : List (List ℕ)) × (slice_split is_space rest ≡ [] ∷ parts) × (fields_of rest ≡ filled parts)
ends [] h = ([], refl, refl)
ends (b ∷ rest) h = (slice_split is_space rest, rw h refl, rw h refl)

-- a field is the first part
one_field : (field rest : List ℕ) (parts : List (List ℕ)) → IsTrue (list_all (λ b. not (is_space b)) field)
    → slice_split is_space rest ≡ [] ∷ parts → slice_split is_space (field ++ rest) ≡ field ∷ parts
one_field [] rest parts h e = e
one_field (b ∷ bs) rest parts h e =
    rw (not-true (is_space b) (and_left (not (is_space b)) _ h)) (ap (onto_first b) (one_field bs rest parts (and_right (not (is_space b)) _ h) e))

-- a field is kept
filled-more : (field : List ℕ) (parts : List (List ℕ)) → 0 < length field → filled (field ∷ parts) ≡ field ∷ filled parts
filled-more [] parts h = absurd (omega arith)
filled-more (b ∷ bs) parts h = refl

-- spaces alone have no field
all_spaces : (line : List ℕ) → AreSpaces line → fields_of line ≡ []
all_spaces [] h = refl
all_spaces (b ∷ bs) h = rw (and_left (is_space b) _ h) (all_spaces bs (and_right (is_space b) _ h))

-- the computed fields of a line are its fields
pub HasFields-fields_of : (line : List ℕ) (fields : List (List ℕ)) → HasFields line fields → fields_of line ≡ fields
HasFields-fields_of line [] h = all_spaces line h
HasFields-fields_of line (field ∷ fields) h =
    let end = ends h.1 h.5 in
    let parts : slice_split is_space (field ++ h.1) ≡ field ∷ end.0 = one_field field h.1 end.0 h.4.1 end.1 in
    ap fields_of h.2 ∙ after_spaces h.0 (field ++ h.1) h.3 ∙ ap filled parts ∙ filled-more field end.0 h.4.0
    ∙ ap (λ fs. field ∷ fs) (sym end.2 ∙ HasFields-fields_of h.1 fields h.6)

-- a space in front changes no field
space_more : (b : ℕ) (rest : List ℕ) (fields : List (List ℕ)) → is_space b ≡ true → HasFields rest fields → HasFields (b ∷ rest) fields
space_more b rest [] e h = rw e h
space_more b rest (field ∷ fields) e h = (b ∷ h.0, h.1, ap (λ l. b ∷ l) h.2, rw e h.3, h.4, h.5, h.6)

-- the first part with a byte in front
split_more : (b : ℕ) (bs part : List ℕ) (parts : List (List ℕ)) (v : Bool) → is_space b ≡ v → slice_split is_space bs ≡ part ∷ parts
    → (one : List ℕ) × (others : List (List ℕ)) × (slice_split is_space (b ∷ bs) ≡ one ∷ others)
split_more b bs part parts true e is = ([], slice_split is_space bs, rw e refl)
split_more b bs part parts false e is = (b ∷ part, parts, rw (e, is) refl)

-- there is a part
split_some : (line : List ℕ) → (part : List ℕ) × (parts : List (List ℕ)) × (slice_split is_space line ≡ part ∷ parts)
split_some [] = ([], [], refl)
split_some (b ∷ bs) = let (part, parts, is) = split_some bs in split_more b bs part parts (is_space b) refl is

-- a byte in front of a field belongs to it
grow : (b c : ℕ) (r u : List ℕ) (fields : List (List ℕ)) → is_space b ≡ false → is_space c ≡ false
    → HasFields (c ∷ r) ((c ∷ u) ∷ fields) → HasFields (b ∷ c ∷ r) ((b ∷ c ∷ u) ∷ fields)
grow b c r u fields eb ec ([], rest, e, sp, f, end, more) =
    ([], rest, ap (λ l. b ∷ l) e, refl, (omega arith, rw eb f.1), end, more)
grow b c r u fields eb ec (s ∷ ss, rest, e, sp, f, end, more) =
    let same : c ≡ s = cc in
    let space : is_space s ≡ true = and_left (is_space s) _ sp in
    let no : is_space s ≡ false = subst (λ x. is_space x ≡ false) same ec in
    cc

-- a byte that is no space in front of a line
field_more : (b : ℕ) (rest : List ℕ) → is_space b ≡ false → HasFields rest (fields_of rest) → HasFields (b ∷ rest) (fields_of (b ∷ rest))
field_more b [] e h = rw e ([], [], refl, refl, (omega arith, rw e refl), tt, refl)
field_more b (c ∷ r) e h = by (is_space c) refl
  where
    by : (v : Bool) → is_space c ≡ v → HasFields (b ∷ c ∷ r) (fields_of (b ∷ c ∷ r))
    by true ec =
        let cut : fields_of (b ∷ c ∷ r) ≡ (b ∷ []) ∷ fields_of (c ∷ r) = rw (e, ec) refl in
        subst (HasFields (b ∷ c ∷ r)) (sym cut) ([], c ∷ r, refl, refl, (omega arith, rw e refl), ec, h)
    by false ec =
        let (u, us, is) = split_some r in
        let cut : fields_of (b ∷ c ∷ r) ≡ (b ∷ c ∷ u) ∷ filled us = rw (e, ec, is) refl in
        let had : fields_of (c ∷ r) ≡ (c ∷ u) ∷ filled us = rw (ec, is) refl in
        subst (HasFields (b ∷ c ∷ r)) (sym cut) (grow b c r u (filled us) e ec (subst (HasFields (c ∷ r)) had h))

-- the computed fields are those of the line
pub fields_of-HasFields : (line : List ℕ) → HasFields line (fields_of line)
fields_of-HasFields [] = refl
fields_of-HasFields (b ∷ rest) = by (is_space b) refl (fields_of-HasFields rest)
  where
    by : (v : Bool) → is_space b ≡ v → HasFields rest (fields_of rest) → HasFields (b ∷ rest) (fields_of (b ∷ rest))
    by true e h = let cut : fields_of (b ∷ rest) ≡ fields_of rest = rw e refl in
        subst (HasFields (b ∷ rest)) (sym cut) (space_more b rest (fields_of rest) e h)
    by false e h = field_more b rest e h
