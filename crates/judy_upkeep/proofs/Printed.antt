-- What is printed of records.
--     parts-of, no-parts       the parts of a record
--     printed-gone ..          the line of a record, by what it is
--     printed-first            the lines of records, from the first
use Rattle.std.proofs.Common.{◌≡◌, ℕ, Bool, true, false, not, ◌==◌, List, [], ◌∷◌, ◌++◌, Option, Some, None, refl, sym, ◌∙◌, ap, append_assoc, append-nil}
use Rattle.std.specs.Prelude.{option_map, if◌then◌else◌}
use Rattle.std.specs.List.{list_all}
use Rattle.std.specs.Str.{bytes_eq}
use Rattle.judy_journal.specs.Journals.{HasNoSpace, record_of}
use Rattle.judy_journal.specs.Leaving.{gone_in}
use Rattle.judy_journal.specs.Replays.{parts_of}
use Rattle.judy_model.specs.Stream.{lines_of}
use Rattle.judy_model.proofs.lemmas.LineLemmas.{IsOneLine, lines_of-bytes, lines_of-line}
use Rattle.judy_upkeep.specs.Printing.{gone_line, is_among, printed, printed_by, printed_lines}

-- ---- the parts of a record

no_space : (b : ℕ) (bytes : List ℕ) → HasNoSpace (b ∷ bytes) → ((b == 32) ≡ false) × HasNoSpace bytes
no_space b bytes h =
    let parts = Rattle.std.proofs.lemmas.Bool.and_parts (not (b == 32)) (list_all (λ c. not (c == 32)) bytes) h in
    (is_not (b == 32) parts.0, parts.1)
  where
    is_not : (v : Bool) → not v ≡ true → v ≡ false
    is_not true e = cc
    is_not false e = refl

abbrev onto : ℕ → Option (List ℕ × List ℕ) → Option (List ℕ × List ℕ)
onto b parts = option_map (λ p. (b ∷ p.0, p.1)) parts

pub parts-of : (name request : List ℕ) → HasNoSpace name → parts_of (record_of name request) ≡ Some (name, request)
parts-of [] request h = refl
parts-of (b ∷ name) request h =
    let none = no_space b name h in
    ap (λ (v : Bool). if v then Some ([], record_of name request) else onto b (parts_of (record_of name request))) none.0
    ∙ ap (onto b) (parts-of name request none.1)

pub no-parts : (bytes : List ℕ) → HasNoSpace bytes → parts_of bytes ≡ None
no-parts [] h = refl
no-parts (b ∷ bytes) h =
    let none = no_space b bytes h in
    ap (λ (v : Bool). if v then Some ([], bytes) else onto b (parts_of bytes)) none.0 ∙ ap (onto b) (no-parts bytes none.1)

-- ---- the line of a record

-- of one of tenants who left
by_gone : (gone : Option (List (List ℕ))) (parts : Option (List ℕ × List ℕ)) (tenant : List ℕ) (left : Bool)
    → Some left ≡ option_map (λ names. is_among names tenant) gone → printed_by gone parts tenant ≡ (if left then gone_line else [])
by_gone None parts tenant left e = absurd (apart e)
  where
    apart : Some left ≡ None → ⊥
    apart h = cc
by_gone (Some names) parts tenant left e = let is : left ≡ is_among names tenant = cc in ap (λ (v : Bool). if v then gone_line else []) (sym is)

pub printed-gone : (tenant text : List ℕ) (left : Bool) → Some left ≡ option_map (λ names. is_among names tenant) (gone_in text)
    → printed (Some tenant) text ≡ (if left then gone_line else [])
printed-gone tenant text left e = by_gone (gone_in text) (parts_of text) tenant left e

-- of another
by_parts : (gone : Option (List (List ℕ))) (parts : Option (List ℕ × List ℕ)) (tenant : List ℕ)
    → None ≡ option_map (λ names. is_among names tenant) gone → printed_by gone parts tenant ≡ printed_by None parts tenant
by_parts None parts tenant e = refl
by_parts (Some names) parts tenant e = absurd (apart e)
  where
    apart : None ≡ Some (is_among names tenant) → ⊥
    apart h = cc

pub printed-request : (tenant text name request : List ℕ) → None ≡ option_map (λ names. is_among names tenant) (gone_in text)
    → HasNoSpace name → text ≡ record_of name request
    → printed (Some tenant) text ≡ (if bytes_eq name tenant then request ++ 10 ∷ [] else [])
printed-request tenant text name request none h is =
    by_parts (gone_in text) (parts_of text) tenant none
    ∙ ap (λ (p : Option (List ℕ × List ℕ)). printed_by None p tenant) (ap parts_of is ∙ parts-of name request h)

pub printed-neither : (tenant text : List ℕ) → None ≡ option_map (λ names. is_among names tenant) (gone_in text)
    → HasNoSpace text → printed (Some tenant) text ≡ []
printed-neither tenant text none h =
    by_parts (gone_in text) (parts_of text) tenant none ∙ ap (λ (p : Option (List ℕ × List ℕ)). printed_by None p tenant) (no-parts text h)

-- ---- the lines of records

-- the first
pub printed-first : (tenant : Option (List ℕ)) (text line after done all : List ℕ) → IsOneLine line → text ≡ line ++ 10 ∷ after
    → done ++ printed_lines tenant (lines_of text) ≡ all
    → (done ++ printed tenant line) ++ printed_lines tenant (lines_of after) ≡ all
printed-first tenant text line after done all one is e =
    append_assoc done (printed tenant line) (printed_lines tenant (lines_of after))
    ∙ ap (λ (v : List (List ℕ)). done ++ printed_lines tenant v) (sym (ap lines_of is ∙ lines_of-line line after one)) ∙ e

-- none
pub printed-none : (tenant : Option (List ℕ)) (text done all : List ℕ) → IsOneLine text
    → done ++ printed_lines tenant (lines_of text) ≡ all → done ≡ all
printed-none tenant text done all one e =
    sym (append-nil done) ∙ ap (λ (v : List (List ℕ)). done ++ printed_lines tenant v) (sym (lines_of-bytes text one)) ∙ e
