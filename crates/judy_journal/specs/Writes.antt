-- A journal that is being written.
--     Writing                 what a writer shows
--     ended w, begun w        after the end of a commit, after the beginning of the next segment
--     with_note w             with a note in the commit that is open
--     secured w               after all of the segment was synced
--     IsShortRecord           a record that fits wherever there is room
use Rattle.std.specs.Prelude.{ℕ, Bool, ◌≤◌, ◌+◌, ◌-◌, ◌^◌, List, [], ◌∷◌, ◌++◌, IsTrue, length, min, nat_le, codes}
use Rattle.judy_journal.specs.declared.format.TheConstants.{BODY_LIMIT, RECORD_LIMIT}
use Rattle.judy_journal.specs.Journals.{Commit, commits_lines, header, is_record, joined, numbered, record_of, sum_after}
use Rattle.judy_journal.specs.Notes.{changes_in, note}

-- the segment's number, how many bytes it has and how many of them are synced, the checksum after its last
-- commit, the records of the commit that is open, and the text that was made last
pub record Writing : Type 0 where
  pub segment : ℕ
  pub sum : List ℕ
  pub size : ℕ
  pub synced : ℕ
  pub records : Commit
  pub text : List ℕ

-- a record, short enough for any commit
pub record IsShortRecord (tenant request : List ℕ) : Type 0 where
  pub short_name : length tenant ≤ 32
  pub short_request : length request ≤ 4096
  pub is : IsTrue (is_record (record_of tenant request))

-- whether the commit that is open has room for any such record, and for a note
abbrev pub has_room : Writing → Bool
has_room w = nat_le (length (joined w.records) + RECORD_LIMIT) BODY_LIMIT

-- a size and more bytes; it stays at `u64::MAX`
abbrev pub size_with : ℕ → ℕ → ℕ
size_with size more = min (size + more) (2 ^ 64 - 1)

-- the text of one commit after a checksum: its records and its mark
abbrev pub commit_text : List ℕ → Commit → List ℕ
commit_text sum commit = joined (commits_lines sum (commit ∷ []))

-- the first line of a segment, as text
abbrev pub header_text : ℕ → List ℕ → List ℕ
header_text segment sum = joined (header segment sum ∷ [])

-- the first line of a snapshot of the segments up to this one, which ends with this checksum
abbrev pub snapshot_line : ℕ → List ℕ → List ℕ
snapshot_line segment sum = numbered (codes "judyd snapshot 1 ") segment sum

-- the commit has ended, and its text is made
abbrev pub ended : Writing → Writing
ended w = record w {
  sum = sum_after w.sum w.records;
  size = size_with w.size (length (commit_text w.sum w.records));
  records = [];
  text = commit_text w.sum w.records;
}

-- the records of a commit and its note: this segment has so many bytes before it, of which so many are synced
abbrev pub noted_commit : ℕ → ℕ → ℕ → Commit → Commit
noted_commit segment size synced records = records ++ note segment (size_with size (length (joined records))) synced ∷ []

-- with the note of the commit that is open
abbrev pub with_note : Writing → Writing
with_note w = record w { records = noted_commit w.segment w.size w.synced w.records }

-- all of the segment was synced
abbrev pub secured : Writing → Writing
secured w = record w { synced = w.size }

-- the next segment has begun, and its first line is made, which is synced before the first commit
abbrev pub begun : Writing → Writing
begun w = record w {
  segment = w.segment + 1;
  size = length (header_text (w.segment + 1) w.sum);
  synced = length (header_text (w.segment + 1) w.sum);
  text = header_text (w.segment + 1) w.sum;
}

-- the records of commits in order, without their notes
abbrev pub all_records : List Commit → Commit
all_records [] = []
all_records (commit ∷ commits) = changes_in commit ++ all_records commits
