-- The record of tenants that left: the first one's name, `GONE`, and the names of the others, with a space between
-- two of them. It is one record, so after a crash all of them are gone, or none is.
--     gone_request others     what stands behind the first name and its space
--     gone_records names      the record of the tenants with these names; none if nobody left
--     gone_in record          the names that a record has; None if it is no such record
use Rattle.std.specs.Prelude.{ℕ, ◌&&◌, List, [], ◌∷◌, ◌++◌, Option, Some, None, codes, if◌then◌else◌}
use Rattle.std.specs.List.{list_all}
use Rattle.std.specs.Str.{bytes_eq}
use Rattle.judy_model.specs.Grammar.{fields_of, is_name}
use Rattle.judy_protocol.specs.Plain.{spaced_more}
use Rattle.judy_journal.specs.Journals.{Commit, record_of}

-- what stands behind the first name and its space
abbrev pub gone_request : List (List ℕ) → List ℕ
gone_request others = codes "GONE" ++ spaced_more others

-- the record of the tenants with these names; none if nobody left
abbrev pub gone_records : List (List ℕ) → Commit
gone_records [] = []
gone_records (first ∷ others) = record_of first (gone_request others) ∷ []

-- the names, if the second field is `GONE` and all others are names
abbrev pub gone_of : List (List ℕ) → Option (List (List ℕ))
gone_of [] = None
gone_of (first ∷ []) = None
gone_of (first ∷ word ∷ others) = if bytes_eq word (codes "GONE") && list_all is_name (first ∷ others) then Some (first ∷ others) else None

-- the names that a record has; None if it is no record of tenants that left
abbrev pub gone_in : List ℕ → Option (List (List ℕ))
gone_in text = gone_of (fields_of text)
