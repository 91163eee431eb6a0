-- What is printed of a journal's records.
--     printed tenant record          the line of a record, for this tenant; with no tenant it is the record
--     printed_lines tenant records   the lines of records
--     printed-append                 the lines of records, and then of more, are those of all together
use Rattle.std.specs.Prelude.{◌≡◌, ℕ, Bool, List, [], ◌∷◌, ◌++◌, Option, Some, None, codes, option_map, if◌then◌else◌}
use Rattle.std.specs.Borrow.{Bor}
use Rattle.std.specs.Io.KnownBytes.{Appends}
use Rattle.std.specs.List.{flat_map, list_any}
use Rattle.std.specs.Str.{bytes_eq}
use Rattle.std.proofs.Common.{sym, ◌∙◌, subst}
use Rattle.std.proofs.KnownBytes.{Appends-trans}
use Rattle.std.proofs.lemmas.Grind.{flat_map-append}
use Rattle.judy_journal.specs.Leaving.{gone_in}
use Rattle.judy_journal.specs.Replays.{parts_of}

-- whether a name is among these
abbrev pub is_among : List (List ℕ) → List ℕ → Bool
is_among names name = list_any (λ other. bytes_eq other name) names

-- the line that tells that a tenant left
abbrev pub gone_line : List ℕ
gone_line = codes "GONE" ++ 10 ∷ []

-- The line of a record of these tenants who left, or of a request. What has no space is neither.
abbrev pub printed_by : Option (List (List ℕ)) → Option (List ℕ × List ℕ) → List ℕ → List ℕ
printed_by (Some names) parts tenant = if is_among names tenant then gone_line else []
printed_by None (Some parts) tenant = if bytes_eq parts.0 tenant then parts.1 ++ 10 ∷ [] else []
printed_by None None tenant = []

-- The line of a record, for this tenant: its request, or that it left; none for others. With no tenant it is the record.
abbrev pub printed : Option (List ℕ) → List ℕ → List ℕ
printed None text = text ++ 10 ∷ []
printed (Some tenant) text = printed_by (gone_in text) (parts_of text) tenant

abbrev pub printed_lines : Option (List ℕ) → List (List ℕ) → List ℕ
printed_lines tenant records = flat_map (printed tenant) records

-- the tenant whose lines are printed
abbrev pub name_of : Option (Bor (List ℕ)) → Option (List ℕ)
name_of tenant = option_map (λ t. t.now) tenant

-- the lines of records, and then of more, are those of all together
pub printed-append : (t u v : Option (Bor (List ℕ))) (a b c : Option (List ℕ)) (records more : List (List ℕ))
    → u ≡ t → Appends a b (printed_lines (name_of t) records) → v ≡ u → Appends b c (printed_lines (name_of u) more)
    → (v ≡ t) × Appends a c (printed_lines (name_of t) (records ++ more))
printed-append t u v a b c records more same first same' second =
    let next : Appends b c (printed_lines (name_of t) more) =
    subst (λ (w : Option (Bor (List ℕ))). Appends b c (printed_lines (name_of w) more)) same second in (
      same' ∙ same,
      subst (λ (w : List ℕ). Appends a c w) (sym (flat_map-append (printed (name_of t)) records more))
          (Appends-trans a b c (printed_lines (name_of t) records) (printed_lines (name_of t) more) first next),
    )
