-- A snapshot as it is written.
--     Adds name request old new    this record was added, and no other
--     Closes old new               the snapshot was ended
use Rattle.std.specs.Prelude.{◌≡◌, ◌⊎◌, ℕ, List, [], ◌∷◌, ◌++◌}
use Rattle.judy_disk.specs.Acts.{Act}
use Rattle.judy_disk.specs.Acts.Act.{Did}
use Rattle.judy_disk.specs.Acts.Ask.{Write}
use Rattle.judy_disk.specs.Growth.{acts_of, end_of, file_of, place_of}
use Rattle.judy_disk.specs.declared.files.Growing.{Growing}
use Rattle.judy_journal.specs.Journals.{record_of}
use Rattle.judy_journal.specs.Writes.{Writing, commit_text, ended}
use Rattle.judy_upkeep.specs.declared.output.Output.{Output}

-- the writer of the snapshot's text
abbrev pub writer_of : {F A D : Type 0} → Output F A D → Writing
writer_of output = output.writer.value

-- the file that the text is appended to
abbrev pub file_in : {F A D : Type 0} → Output F A D → Growing F A D
file_in output = file_of output.file

-- the acts of a file, and then that these bytes were appended
abbrev pub appended : {F A D : Type 0} → Growing F A D → List ℕ → List Act
appended file bytes = acts_of file ++ Did (Write (place_of file) (end_of file) bytes) ∷ []

-- the writer's text was appended to the file, and nothing else was asked about it
pub record Appends {F A D : Type 0} (old new : Output F A D) : Type 0 where
  pub writer : writer_of new ≡ writer_of old
  pub place : place_of (file_in new) ≡ place_of (file_in old)
  pub acts : acts_of (file_in new) ≡ appended (file_in old) (writer_of old).text

-- the commit that is open was ended, and its text appended
pub record Ends {F A D : Type 0} (old new : Output F A D) : Type 0 where
  pub writer : writer_of new ≡ ended (writer_of old)
  pub place : place_of (file_in new) ≡ place_of (file_in old)
  pub acts : acts_of (file_in new) ≡ appended (file_in old) (commit_text (writer_of old).sum (writer_of old).records)

-- The commit that is open was ended, if it has a record.
abbrev pub Flushes : {F A D : Type 0} → Output F A D → Output F A D → Type 0
Flushes old new = (new ≡ old) ⊎ Ends old new

-- a writer with one more record in the commit that is open
abbrev pub with_record : Writing → List ℕ → List ℕ → Writing
with_record w name request = record w { records = w.records ++ record_of name request ∷ [] }

-- only the writer has changed, and so
pub record Keeps {F A D : Type 0} (old : Output F A D) (writer : Writing) (new : Output F A D) : Type 0 where
  pub writes : writer_of new ≡ writer
  pub file : file_in new ≡ file_in old

-- This record was added to the commit that is open, and no other. If there was no room for it, the commit was ended
-- first, and its text appended to the file.
abbrev pub Adds : {F A D : Type 0} → List ℕ → List ℕ → Output F A D → Output F A D → Type 0
Adds {F} {A} {D} name request old new = Keeps old (with_record (writer_of old) name request) new
    ⊎ ((mid : Output F A D) × Ends old mid × Keeps mid (with_record (writer_of mid) name request) new)

-- The commit that is open was ended, if it has a record. Then one without records was ended.
abbrev pub Closes : {F A D : Type 0} → Output F A D → Output F A D → Type 0
Closes {F} {A} {D} old new = (mid : Output F A D) × Flushes old mid × ((writer_of mid).records ≡ []) × Ends mid new
