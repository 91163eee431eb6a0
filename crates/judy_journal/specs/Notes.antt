-- The notes of a journal: how many bytes of a segment were synced for sure when a commit was written.
--     note segment place sure       the note at this place of this segment
--     changes_in commit             the records of a commit without its note
--     sure_of segment place line    what a line at this place tells, if it is a note
--     Seen, seen_in segment text    what the lines of a text tell: the most that a note of it tells
--     is_torn_end segment seen size whether damage behind this size may be what a crash left
use Rattle.std.specs.Prelude.{ℕ, Bool, false, ◌&&◌, ◌+◌, ◌-◌, ◌*◌, ◌%◌, List, [], ◌∷◌, ◌++◌, length, take, drop, nat_le, ◌==◌, codes, decimal}
use Rattle.std.specs.Prelude.{Option, Some, None, if◌then◌else◌, min, ◌^◌}
use Rattle.std.specs.Int.{w64, to_be_bytes}
use Rattle.std.specs.Str.{bytes_eq}
use Rattle.hex.specs.Hex.{encode_lower}
use Rattle.judy_model.specs.Stream.{lines_of}
use Rattle.judy_journal.specs.Journals.{Commit, numbered, sum_of}

-- ---- notes

-- the checksum of a note: the number of the segment, the place and what is sure
abbrev pub check : ℕ → ℕ → ℕ → List ℕ
check segment place sure = sum_of (encode_lower (to_be_bytes w64 segment)) (decimal place ++ 32 ∷ decimal sure)

-- the note whose line begins at this byte of this segment: so many bytes of the segment are synced for sure
abbrev pub note : ℕ → ℕ → ℕ → List ℕ
note segment place sure = numbered (codes "@ ") sure (check segment place sure)

-- a note begins with `@`
abbrev pub is_note : List ℕ → Bool
is_note [] = false
is_note (b ∷ bytes) = b == 64

-- the records of a commit that tell changes: all but a note at its end
abbrev pub changes_in : Commit → Commit
changes_in [] = []
changes_in (r ∷ []) = if is_note r then [] else r ∷ []
changes_in (r ∷ s ∷ records) = r ∷ changes_in (s ∷ records)

-- ---- lines that are read

-- what stands between `@ ` and the checksum
abbrev pub digits_in : List ℕ → List ℕ
digits_in line = drop 2 (take (length line - 17) line)

-- the number that digits write after a number, modulo 2^64; of bytes that are no digits it is any number
abbrev pub number_told : ℕ → List ℕ → ℕ
number_told number [] = number
number_told number (b ∷ bytes) = number_told (((number * 10) % 2 ^ 64 + b % 16) % 2 ^ 64) bytes

-- the number that the line tells if it is a note
abbrev pub number_in : List ℕ → ℕ
number_in line = number_told 0 (digits_in line)

-- what the line at this place tells, if it is the note of this place
abbrev pub sure_of : ℕ → ℕ → List ℕ → Option ℕ
sure_of segment place line =
    if is_note line && nat_le 19 (length line) && nat_le (length line) 39 && bytes_eq line (note segment place (number_in line))
    then Some (number_in line)
    else None

-- the greater of two numbers, if there are any
abbrev pub larger : Option ℕ → Option ℕ → Option ℕ
larger None b = b
larger (Some a) None = Some a
larger (Some a) (Some b) = if nat_le a b then Some b else Some a

-- where the next line begins, which stays at `u64::MAX`; the most that a note told
pub record Seen : Type 0 where
  pub place : ℕ
  pub surest : Option ℕ

abbrev pub seen_nothing : Seen
seen_nothing = record { place = 0; surest = None }

abbrev pub seen_line : ℕ → Seen → List ℕ → Seen
seen_line segment seen line = record {
  place = min (seen.place + (length line + 1)) (2 ^ 64 - 1);
  surest = larger seen.surest (sure_of segment seen.place line);
}

abbrev pub seen_lines : ℕ → Seen → List (List ℕ) → Seen
seen_lines segment seen [] = seen
seen_lines segment seen (line ∷ lines) = seen_lines segment (seen_line segment seen line) lines

-- what the whole lines of a segment's text tell
abbrev pub seen_in : ℕ → List ℕ → Seen
seen_in segment text = seen_lines segment seen_nothing (lines_of text)

-- ---- the end of a segment

-- how many bytes the first line of a segment has, with its line feed
abbrev pub first_len : ℕ → ℕ
first_len segment = length (decimal segment) + 34

abbrev pub is_torn_by : ℕ → Option ℕ → ℕ → Bool
is_torn_by first (Some sure) size = nat_le sure size
is_torn_by first None size = nat_le size first

-- Damage behind this size of a segment is what a crash left: no note tells that more was synced, and one tells something.
-- Without any note no commit comes before the damage. The size is that of the first line and the commits before it.
abbrev pub is_torn_end : ℕ → Seen → ℕ → Bool
is_torn_end segment seen size = is_torn_by (first_len segment) seen.surest size
