-- What was recovered of all files of a journal: its snapshot, if there is one, and then its segments in order.
-- `plays old records new` says that these records were played, one after another. `remaining file` is what is known
-- of the bytes that a file has still to give.
--     HasStarted plays remaining snapshot old r new              the snapshot was played; r goes on behind it
--     HasPlayedFiles plays remaining .. count old r new          so many whole files were played
--     EndsThere segment sum done text commits r end              the journal ends in this text, behind these files
--     MayFollow segment sum done commits text junk size          behind this text the last file has what a crash may have left
--     AreAllIn segment sum done bytes commits tail               with all bytes of the last file these are all commits
--     HasRecoveredAll plays remaining snapshot last old end new  the snapshot and the segments up to the last were played
--     Recovers plays remaining snapshot last old end new         the same, or there is no segment
--     GoesOn end at                                              a writer goes on where the journal ends
--     HasPlayedJournal plays kept old new                        a journal of these files was read and played
--     HasResumed plays kept old at new                           the same, and a writer goes on behind it
use Rattle.std.specs.Prelude.{◌≡◌, ◌⊎◌, ℕ, ◌<◌, ◌+◌, ◌-◌, ◌^◌, true, false, List, [], ◌∷◌, ◌++◌, length, IsTrue, Option, Some, None}
use Rattle.std.specs.Io.KnownBytes.{Consumes, IsAtEnd}
use Rattle.judy_journal.specs.Acts.{AreWhole, File, Left}
use Rattle.judy_journal.specs.Crashes.{FoundAll}
use Rattle.judy_journal.specs.Journals.{Commit, is_line, sum_at}
use Rattle.judy_journal.specs.Notes.{is_torn_end, seen_in}
use Rattle.judy_journal.specs.Readings.{HasShortHeader, tail_of}
use Rattle.judy_journal.specs.Recovered.{IsPosition, IsRecovered, IsSnapshot, Recovering, files_kept}
use Rattle.judy_journal.specs.Writes.{all_records, snapshot_line}
use Rattle.judy_journal.specs.declared.format.TheConstants.{SUM_LEN}
use Rattle.judy_journal.specs.declared.recovery.Position.{Position}
use Rattle.judy_journal.specs.declared.damage.Damage.{Damage}
use Rattle.judy_recovery.specs.Played.{IsDamagedFile, ReadsOn}
use Rattle.judy_recovery.specs.declared.ends.End.{End}
use Rattle.judy_recovery.specs.declared.ends.TheConstants.{FIRST_SUM}
use Rattle.judy_recovery.specs.declared.resuming.Resumed.{Resumed}

-- the segments up to this one need not be read: those that the snapshot stands for
abbrev pub segment_before : Option ℕ → ℕ
segment_before None = 0
segment_before (Some number) = number

-- The first segment that is read continues from this checksum, and these commits come before it: none, or
-- those of the snapshot.
abbrev pub IsStart : Option ℕ → List ℕ → List Commit → Type 0
IsStart None sum commits = (sum ≡ FIRST_SUM) × (commits ≡ [])
IsStart (Some number) sum commits = IsTrue (is_line sum) × (bytes : List ℕ) × IsSnapshot number sum bytes commits

-- a file that was opened gave these bytes, and then its end
abbrev pub Gave : {F : Type 0} → (F → Option (List ℕ)) → List ℕ → Type 0
Gave {F} remaining bytes = (file : F) × (left : Option (List ℕ)) × Consumes (remaining file) left bytes × IsAtEnd left

-- each of these files gave its bytes
abbrev pub AllGave : {F : Type 0} → (F → Option (List ℕ)) → List Left → Type 0
AllGave remaining [] = Unit {0}
AllGave remaining (l ∷ left) = Gave remaining l.bytes × AllGave remaining left

-- the snapshot's file gave what comes after its first line, if there is a snapshot
abbrev pub GaveStart : {F : Type 0} → (F → Option (List ℕ)) → Option ℕ → List ℕ → List Commit → Type 0
GaveStart remaining None sum commits = Unit {0}
GaveStart remaining (Some number) sum commits = (text : List ℕ) × Gave remaining text
    × IsSnapshot number sum (snapshot_line number sum ++ 10 ∷ text) commits

-- the snapshot was read, if there is one, and its records were played. The next bytes are of the segment
-- after it
pub record HasStarted {P F : Type 0} (plays : P → List (List ℕ) → P → Type 0) (remaining : F → Option (List ℕ)) (snapshot : Option ℕ)
    (old : P) (r : Recovering) (new : P) : Type 0 where
  pub sum : List ℕ
  pub commits : List Commit
  pub start : IsStart snapshot sum commits
  pub sum_len : length sum ≡ SUM_LEN
  pub given : GaveStart remaining snapshot sum commits
  pub next : IsRecovered (segment_before snapshot) sum [] [] [] r
  pub played : plays old (all_records commits) new

-- So many files were read behind these, each of them whole, and exactly the records of their commits were
-- played, in order.
pub record HasPlayedFiles {P F : Type 0} (plays : P → List (List ℕ) → P → Type 0) (remaining : F → Option (List ℕ))
    (segment : ℕ) (sum : List ℕ) (done : List Left) (commits : List Commit) (count : ℕ) (old : P) (r : Recovering) (new : P) : Type 0 where
  pub files : List Left
  pub count_is : length files ≡ count
  pub given : AllGave remaining files
  pub more : List Commit
  pub read : IsRecovered segment sum (done ++ files) [] (commits ++ more) r
  pub played : plays old (all_records more) new

-- whole files were read, whatever was read before them
abbrev pub ReadsFiles : {P F : Type 0} → (P → List (List ℕ) → P → Type 0) → (F → Option (List ℕ)) → ℕ
    → Recovering → P → Recovering → P → Type 0
ReadsFiles plays remaining count before old after new = (segment : ℕ) (sum : List ℕ) (done : List Left) (commits : List Commit)
    → IsRecovered segment sum done [] commits before → HasPlayedFiles plays remaining segment sum done commits count old after new

-- The last file is the one after these whole files. It has this text, and with it these are all commits.
-- If its first line is whole, what comes after the end's size is no whole commit. If not, the size is 0.
pub record EndsThere (segment : ℕ) (sum : List ℕ) (done : List Left) (text : List ℕ) (commits : List Commit)
    (r : Recovering) (end : End) : Type 0 where
  pub position : Position
  pub stands : IsPosition segment sum done text commits r position
  pub segment_is : end.segment ≡ segment + length done + 1
  pub sum_is : end.sum ≡ sum_at sum commits
  pub size_is : r.reading.begun ≡ true → end.size + length (tail_of r.reading) ≡ length text
  pub some : r.reading.begun ≡ true → 0 < end.size
  pub none : r.reading.begun ≡ false → end.size ≡ 0

-- the segment of this number was read to its end, whatever was read before it
pub record ReadsSegment {P F : Type 0} (plays : P → List (List ℕ) → P → Type 0) (remaining : F → Option (List ℕ)) (number : ℕ)
    (before : Recovering) (old : P) (end : End) (after : Recovering) (new : P) : Type 0 where
  pub bytes : List ℕ
  pub given : Gave remaining bytes
  pub reads : ReadsOn plays before bytes old after new
  pub ends : (segment : ℕ) (sum : List ℕ) (done : List Left) (text : List ℕ) (commits : List Commit)
      → IsRecovered segment sum done text commits after → number ≡ segment + length done + 1
      → EndsThere segment sum done text commits after end

-- Behind this text the last file has these bytes. A front of them makes the file damaged, and no note in the file tells
-- that more of it was synced than this size. If there is no note, the file has no whole commit.
pub record IsCutOff (segment : ℕ) (sum : List ℕ) (done : List Left) (commits : List Commit) (text junk : List ℕ) (size : ℕ) : Type 0 where
  pub damage : Damage
  pub seen : List ℕ
  pub more : List ℕ
  pub junk_is : seen ++ more ≡ junk
  pub damaged : IsDamagedFile damage segment sum done commits (text ++ seen)
  pub torn : is_torn_end (segment + length done + 1) (seen_in (segment + length done + 1) (text ++ junk)) size ≡ true

-- nothing is behind the text, or what a crash may have left
abbrev pub MayFollow : ℕ → List ℕ → List Left → List Commit → List ℕ → List ℕ → ℕ → Type 0
MayFollow segment sum done commits text junk size = (junk ≡ []) ⊎ IsCutOff segment sum done commits text junk size

-- the files of the segments after this one, with the last one
abbrev pub with_last : ℕ → List Left → List ℕ → List Left
with_last segment done text = done ++ record { number = segment + length done + 1; bytes = text } ∷ []

-- The last file has these bytes, fewer than 2^64 of them. Then these are all the first whole commits of the files,
-- whatever comes after them.
abbrev pub AreAllIn : ℕ → List ℕ → List Left → List ℕ → List Commit → List ℕ → Type 0
AreAllIn segment sum done bytes commits tail = length bytes < 2 ^ 64 → FoundAll segment sum (with_last segment done bytes) commits tail

-- The last file, which has these bytes, was read up to its first damage, and the records of its whole commits were
-- played. What follows was passed over: no further whole commit comes next.
pub record EndsIn {P : Type 0} (plays : P → List (List ℕ) → P → Type 0) (segment : ℕ) (sum : List ℕ) (done : List Left) (commits : List Commit)
    (bytes : List ℕ) (old : P) (end : End) (r : Recovering) (new : P) : Type 0 where
  pub text : List ℕ
  pub junk : List ℕ
  pub cut : text ++ junk ≡ bytes
  pub more : List Commit
  pub read : IsRecovered segment sum done text (commits ++ more) r
  pub played : plays old (all_records more) new
  pub ends : EndsThere segment sum done text (commits ++ more) r end
  pub follows : MayFollow segment sum done (commits ++ more) text junk end.size
  pub alone : (junk ≡ []) ⊎ (HasShortHeader r.reading.segment r.reading.first
      → AreAllIn segment sum done bytes (commits ++ more) (tail_of r.reading ++ junk))

-- the segment of this number, which is the last one, was read to its end, whatever was read before it
pub record ReadsLast {P F : Type 0} (plays : P → List (List ℕ) → P → Type 0) (remaining : F → Option (List ℕ)) (number : ℕ)
    (before : Recovering) (old : P) (end : End) (after : Recovering) (new : P) : Type 0 where
  pub bytes : List ℕ
  pub given : Gave remaining bytes
  pub reads : (segment : ℕ) (sum : List ℕ) (done : List Left) (commits : List Commit) → IsRecovered segment sum done [] commits before
      → number ≡ segment + length done + 1 → EndsIn plays segment sum done commits bytes old end after new

-- The snapshot was read, if there is one, and then the segments after it, in order and without a gap, up to
-- the last one. Exactly the records of their whole commits were played, in order: those of the snapshot first.
pub record HasRecoveredAll {P F : Type 0} (plays : P → List (List ℕ) → P → Type 0) (remaining : F → Option (List ℕ))
    (snapshot : Option ℕ) (last : ℕ) (old : P) (end : End) (new : P) : Type 0 where
  pub sum : List ℕ
  pub unpacked : List Commit
  pub start : IsStart snapshot sum unpacked
  pub done : List Left  -- the files before the last one, each of them whole
  pub text : List ℕ  -- what was read of the last file
  pub junk : List ℕ  -- what it has behind that
  pub commits : List Commit
  pub r : Recovering
  pub read : IsRecovered (segment_before snapshot) sum done text commits r
  pub found : FoundAll (segment_before snapshot) sum (with_last (segment_before snapshot) done text) commits (tail_of r.reading)
  pub all : AreAllIn (segment_before snapshot) sum done (text ++ junk) commits (tail_of r.reading ++ junk)
  pub began : GaveStart remaining snapshot sum unpacked
  pub given : AllGave remaining (with_last (segment_before snapshot) done (text ++ junk))
  pub follows : MayFollow (segment_before snapshot) sum done commits text junk end.size
  pub last_is : last ≡ segment_before snapshot + length done + 1
  pub ends : EndsThere (segment_before snapshot) sum done text commits r end
  pub whole : AreWhole (segment_before snapshot) sum
      (files_kept r.reading.begun (segment_before snapshot) done text end.size) commits
  pub played : plays old (all_records unpacked ++ all_records commits) new

-- all files were read; or there is no segment behind the snapshot, and nothing was played
abbrev pub Recovers : {P F : Type 0} → (P → List (List ℕ) → P → Type 0) → (F → Option (List ℕ)) → Option ℕ → Option ℕ
    → P → Option End → P → Type 0
Recovers plays remaining snapshot last old None new = ((number : ℕ) → last ≡ Some number → number < segment_before snapshot + 1) × plays old [] new
Recovers plays remaining snapshot last old (Some end) new = (number : ℕ) × (last ≡ Some number) × HasRecoveredAll plays remaining snapshot number old end new

-- A writer goes on with the journal's checksum. It does so in the last file, behind the end's size. If that is
-- 0, the last file has no byte, and the writer begins it anew; and it begins the first one if there is none.
abbrev pub GoesOn : Option End → Resumed → Type 0
GoesOn None at = (at.segment ≡ 0) × (at.sum ≡ FIRST_SUM) × (at.begins ≡ true)
GoesOn (Some end) at = (at.sum ≡ end.sum)
    × (0 < end.size → (at.segment ≡ end.segment) × (at.size ≡ end.size) × (at.begins ≡ false))
    × (end.size ≡ 0 → (at.segment ≡ end.segment - 1) × (at.begins ≡ true))

-- the last of these files with these bytes behind its own
abbrev pub with_junk : List Left → List ℕ → List Left
with_junk [] junk = []
with_junk (l ∷ []) junk = record { number = l.number; bytes = l.bytes ++ junk } ∷ []
with_junk (l ∷ m ∷ left) junk = l ∷ with_junk (m ∷ left) junk

-- each of these files has fewer than 2^64 bytes
abbrev pub AreSized : List Left → Type 0
AreSized [] = Unit {0}
AreSized (l ∷ left) = (length l.bytes < 2 ^ 64) × AreSized left

-- What a journal's directory has: the number of its snapshot, if there is one; the checksum that the first
-- segment after it continues from; the commits of the snapshot; the files of the segments after it, the last one up to
-- its first damage; and what the last one has behind that.
pub record Kept : Type 0 where
  pub snapshot : Option ℕ
  pub sum : List ℕ
  pub unpacked : List Commit
  pub files : List Left
  pub junk : List ℕ

-- A journal of these files was read: a snapshot, if there is one, and the segments after it, each of them whole
-- but perhaps the last, which has this tail. Exactly the records of their whole commits were played, in order:
-- those of the snapshot first. With all bytes of the last file these are all the first whole commits too.
pub record HasPlayedJournal {P : Type 0} (plays : P → List (List ℕ) → P → Type 0) (kept : Kept) (old new : P) : Type 0 where
  pub start : IsStart kept.snapshot kept.sum kept.unpacked
  pub commits : List Commit
  pub tail : List ℕ
  pub found : FoundAll (segment_before kept.snapshot) kept.sum kept.files commits tail
  pub all : AreSized (with_junk kept.files kept.junk)
      → FoundAll (segment_before kept.snapshot) kept.sum (with_junk kept.files kept.junk) commits (tail ++ kept.junk)
  pub played : plays old (all_records kept.unpacked ++ all_records commits) new

-- A journal of these files was read and played, and what a crash left behind the last whole commit was cut off.
-- The files that are left are whole and have all commits that were found. A writer goes on behind them.
pub record HasResumed {P : Type 0} (plays : P → List (List ℕ) → P → Type 0) (kept : Kept) (old : P) (at : Resumed) (new : P) : Type 0 where
  pub journal : HasPlayedJournal plays kept old new
  pub files : List File
  pub whole : AreWhole (segment_before kept.snapshot) kept.sum files journal.commits
  pub segment_is : at.segment ≡ segment_before kept.snapshot + length files
  pub sum_is : at.sum ≡ sum_at kept.sum journal.commits
  pub size_is : at.begins ≡ false → (others : List File) × (last : File) × (files ≡ others ++ last ∷ [])
      × (at.size ≡ length last.synced)
