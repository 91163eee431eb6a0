-- The text of a journal.
--     Commit                              the records of a round, or of a part of it
--     journal_text segment sum commits    the whole text of a segment
--     sum_at sum commits                  the checksum that its last commit ends with
use Rattle.std.specs.Prelude.{ℕ, Bool, false, not, ◌&&◌, List, [], ◌∷◌, ◌++◌, length, IsTrue, nat_le, ◌==◌, codes, decimal, ◌+◌, ◌*◌, ◌%◌, ◌^◌}
use Rattle.std.specs.List.{list_all}
use Rattle.hex.specs.Hex.{encode_lower}
use Rattle.std.specs.Int.{w64, to_be_bytes}
use Rattle.judy_journal.specs.declared.format.TheConstants.{COMMIT_LIMIT, FACTOR}

-- the records of a commit, each a line without its line feed
abbrev pub Commit : Type 0
Commit = List (List ℕ)

-- lines as text, each with its line feed
abbrev pub joined : List (List ℕ) → List ℕ
joined [] = []
joined (line ∷ lines) = line ++ 10 ∷ joined lines

-- whether the bytes have no line feed
abbrev pub is_line : List ℕ → Bool
is_line bytes = list_all (λ b. not (b == 10)) bytes

-- a line that ends a commit begins with `#`
abbrev pub is_mark : List ℕ → Bool
is_mark [] = false
is_mark (b ∷ bytes) = b == 35

-- any other line is a record
abbrev pub is_record : List ℕ → Bool
is_record line = is_line line && not (is_mark line)

-- the record of a request: the tenant's name, a space and the request's line
abbrev pub record_of : List ℕ → List ℕ → List ℕ
record_of tenant request = tenant ++ 32 ∷ request

-- the bytes have no space
abbrev pub HasNoSpace : List ℕ → Type 0
HasNoSpace bytes = IsTrue (list_all (λ b. not (b == 32)) bytes)

-- records of at most so many bytes
abbrev pub is_commit : Commit → Bool
is_commit commit = list_all is_record commit && nat_le (length (joined commit)) COMMIT_LIMIT

abbrev pub AreCommits : List Commit → Type 0
AreCommits commits = IsTrue (list_all is_commit commits)

-- bytes as digits of a number, the greatest first, after a number, modulo 2^64
abbrev pub number_after : ℕ → List ℕ → ℕ
number_after number [] = number
number_after number (b ∷ bytes) = number_after (((number * FACTOR) % 2 ^ 64 + b) % 2 ^ 64) bytes

-- the checksum after these records' text: the checksum before and the text as digits of a number, in
-- hexadecimal digits
unfoldable pub sum_of : List ℕ → List ℕ → List ℕ
sum_of sum text = encode_lower (to_be_bytes w64 (number_after (number_after 0 sum) text))

abbrev pub sum_after : List ℕ → Commit → List ℕ
sum_after sum commit = sum_of sum (joined commit)

-- a line with a number and a checksum
unfoldable pub numbered : List ℕ → ℕ → List ℕ → List ℕ
numbered front number sum = front ++ (decimal number ++ 32 ∷ sum)

-- the line that ends a commit: `# COUNT CHECKSUM`
abbrev pub mark : List ℕ → Commit → List ℕ
mark sum commit = numbered (codes "# ") (length commit) (sum_after sum commit)

-- the first line of a segment: the version, its number, and the checksum that it continues from
abbrev pub header : ℕ → List ℕ → List ℕ
header segment sum = numbered (codes "judyd journal 1 ") segment sum

-- the lines of commits, each with its mark
abbrev pub commits_lines : List ℕ → List Commit → List (List ℕ)
commits_lines sum [] = []
commits_lines sum (commit ∷ commits) = commit ++ mark sum commit ∷ commits_lines (sum_after sum commit) commits

-- the whole text of a segment
abbrev pub journal_text : ℕ → List ℕ → List Commit → List ℕ
journal_text segment sum commits = joined (header segment sum ∷ commits_lines sum commits)

-- the checksum after these commits
abbrev pub sum_at : List ℕ → List Commit → List ℕ
sum_at sum [] = sum
sum_at sum (commit ∷ commits) = sum_at (sum_after sum commit) commits
