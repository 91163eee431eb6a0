-- The sizes of keys and arrays, in pieces.
use Rattle.std.specs.Prelude.{ℕ, ◌+◌, ◌*◌, ◌/◌, List, length, sum_by}
use Rattle.judy_model.specs.Contents.{Entries}
use Rattle.judy_model.specs.declared.quotas.Quota.{Quota}
use Rattle.judy_model.specs.declared.quotas.TheConstants.{PIECE, ENTRY_PIECES_LIMIT}

-- an entry of a Judy1 or a JudyL is one piece
abbrev pub word_pieces : ℕ → ℕ
word_pieces key = 1

-- an entry of a JudySL or a JudyHS has one piece for each eight bytes of its key, and one
-- more
abbrev pub string_pieces : List ℕ → ℕ
string_pieces key = length key / PIECE + 1

-- the pieces of the entries of an array
abbrev pub pieces_of : {K : Type 0} → (K → ℕ) → Entries K → ℕ
pieces_of size entries = sum_by (λ e. size e.0) entries

-- the quota of this many entries, of any sizes
abbrev pub entries_quota : ℕ → Quota
entries_quota n = record { entries = n; pieces = ENTRY_PIECES_LIMIT * n }
