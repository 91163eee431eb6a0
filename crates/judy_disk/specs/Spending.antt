-- How many bytes of records tenants have in the segments of a journal. `chosen segment tenant` says whose are added up.
--     shares_of spent                 the bytes by tenant and segment
--     spent_by chosen shares          the bytes of the shares that are chosen
--     spent_in chosen segment lines   the bytes of the records of a segment that are chosen
use Rattle.std.specs.Prelude.{ℕ, ◌+◌, Bool, ◌&&◌, List, [], ◌∷◌, length, nat_eq, if◌then◌else◌}
use Rattle.judy_model.specs.Grammar.{is_name}
use Rattle.judy_disk.specs.declared.spent.Share.{Share}
use Rattle.judy_disk.specs.declared.spent.Spent.{Spent}

-- the bytes by tenant and segment
abbrev pub shares_of : Spent → List Share
shares_of spent = spent.shares.items

-- the bytes if they are chosen
abbrev pub bytes_if : Bool → ℕ → ℕ
bytes_if chosen bytes = if chosen then bytes else 0

-- the bytes of the shares that are chosen
abbrev pub spent_by : (ℕ → List ℕ → Bool) → List Share → ℕ
spent_by chosen [] = 0
spent_by chosen (s ∷ shares) = bytes_if (chosen s.segment s.tenant) s.bytes + spent_by chosen shares

-- what comes before the first space of a line
abbrev pub first_word : List ℕ → List ℕ
first_word [] = []
first_word (b ∷ line) = if nat_eq b 32 then [] else b ∷ first_word line

-- the bytes of a line of a segment, with its line feed, if it begins with the name of a tenant that is chosen
abbrev pub line_bytes : (ℕ → List ℕ → Bool) → ℕ → List ℕ → ℕ
line_bytes chosen segment line = bytes_if (is_name (first_word line) && chosen segment (first_word line)) (length line + 1)

-- the bytes of the records of a segment that are chosen
abbrev pub spent_in : (ℕ → List ℕ → Bool) → ℕ → List (List ℕ) → ℕ
spent_in chosen segment [] = 0
spent_in chosen segment (line ∷ lines) = line_bytes chosen segment line + spent_in chosen segment lines
