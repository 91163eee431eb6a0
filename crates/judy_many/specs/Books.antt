-- The journal of the loop at one moment.
--     Journal              what was kept, and which records are still to be kept
--     commit_of j          the commit that it keeps next
--     noted records j      the journal after lines with these records
use Rattle.std.specs.Prelude.{ℕ, ◌+◌, Bool, true, List, ◌++◌, length, nat_le, Option, Some, None}
use Rattle.judy_journal.specs.Journals.{Commit, joined}
use Rattle.judy_journal.specs.Writes.{Writing, noted_commit}
use Rattle.judy_many.specs.declared.network.Sync.{Sync}
use Rattle.judy_journal.specs.declared.format.TheConstants.{BODY_LIMIT, RECORD_LIMIT}

-- When it is synced. The number of the last segment, and whether it has its header. How many bytes it has, and
-- how many of them are synced. The checksum after the last commit. The records of lines that were run and are in
-- no commit yet. Whether all that was kept is synced.
pub record Journal : Type 0 where
  pub rule : Sync
  pub segment : ℕ
  pub begun : Bool
  pub size : ℕ
  pub synced : ℕ
  pub sum : List ℕ
  pub records : Commit
  pub clean : Bool

-- the journal that this writer writes
abbrev pub journal_of : Sync → Bool → Writing → Journal
journal_of rule clean w = record {
  rule = rule;
  segment = w.segment;
  begun = true;
  size = w.size;
  synced = w.synced;
  sum = w.sum;
  records = w.records;
  clean = clean;
}

-- the commit of all records, with its note
abbrev pub commit_of : Journal → Commit
commit_of j = noted_commit j.segment j.size j.synced j.records

-- lines with these records were run, or tenants left with this one
abbrev pub noted : Commit → Journal → Journal
noted records j = record j { records = j.records ++ records }

-- the same, if there is a journal
abbrev pub noted_by : Commit → Option Journal → Option Journal
noted_by records None = None
noted_by records (Some j) = Some (noted records j)

-- the journal with which the serving begins: without a rule when it is synced there is none
abbrev pub opened : Option Sync → Option Writing → Option Journal
opened None writer = None
opened (Some rule) None = None
opened (Some rule) (Some w) = Some (journal_of rule true w)

-- whether the next record has room in the commit that is open
abbrev pub has_room : Option Journal → Bool
has_room None = true
has_room (Some j) = nat_le (length (joined j.records) + RECORD_LIMIT) BODY_LIMIT
