-- A journal that is being recovered, file by file.
--     Recovering                                    what a recovery shows
--     IsRecovered segment sum done text commits r   these files and this front of the next one were read
--     IsUnpacked segment sum text commits r         these bytes of a snapshot were read, after its first line
--     IsSnapshot segment sum bytes commits          the bytes are those of a snapshot
use Rattle.std.specs.Prelude.{◌≡◌, ◌==◌, Bool, take, ◌⊎◌, ℕ, ◌≤◌, ◌<◌, ◌+◌, ◌^◌, true, false, List, [], ◌∷◌, ◌++◌, length, Result, Ok, Err, if◌then◌else◌}
use Rattle.judy_journal.specs.declared.damage.Damage.{Damage}
use Rattle.judy_journal.specs.declared.reader.Read.{Read}
use Rattle.judy_journal.specs.declared.reader.Read.TheVariants.{More, Whole}
use Rattle.judy_journal.specs.declared.recovery.Position.{Position}
use Rattle.judy_journal.specs.Acts.{AreWhole, File, Left}
use Rattle.judy_journal.specs.Crashes.{FoundAll}
use Rattle.judy_journal.specs.Journals.{AreCommits, Commit, commits_lines, joined, journal_text, sum_at}
use Rattle.judy_journal.specs.Readings.{HasShortHeader, IsRead, Reading, front, tail_of}
use Rattle.judy_journal.specs.Recoveries.{Found, IsDamaged}
use Rattle.judy_journal.specs.Writes.{header_text, size_with, snapshot_line}

-- what the reader of the current file shows; how many bytes of the file were read; how many of them
-- are up to the end of its last whole commit, 0 if it has none; and how many bytes the file before had
pub record Recovering : Type 0 where
  pub reading : Reading
  pub taken : ℕ
  pub ended : ℕ
  pub before : ℕ

-- the files of the segments after this one, each whole, have these commits
abbrev pub AreFound : ℕ → List ℕ → List Left → List Commit → Type 0
AreFound segment sum [] commits = commits ≡ []
AreFound segment sum (l ∷ left) commits = (here : List Commit) × (later : List Commit) × (commits ≡ here ++ later)
    × (l.number ≡ segment + 1) × Found (segment + 1) sum l.bytes here [] × AreFound (segment + 1) (sum_at sum here) left later

-- how many bytes the last of these files has, 0 if there is none
abbrev pub last_size : List Left → ℕ
last_size [] = 0
last_size (l ∷ []) = length l.bytes
last_size (l ∷ m ∷ left) = last_size (m ∷ left)

-- where the last of these commits ends, if there are any
abbrev pub EndsAt : ℕ → List ℕ → List Commit → ℕ → Type 0
EndsAt number sum [] ended = ended ≡ 0
EndsAt number sum (c ∷ commits) ended = ended ≡ length (journal_text number sum (c ∷ commits))

-- Of the files of the segments after this one these were read whole, and this front of the next. All
-- of their commits are these.
pub record IsRecovered (segment : ℕ) (sum : List ℕ) (done : List Left) (text : List ℕ) (commits : List Commit) (r : Recovering) : Type 0 where
  pub before : List Commit
  pub here : List Commit
  pub joins : commits ≡ before ++ here
  pub found : AreFound segment sum done before
  pub read : IsRead (segment + length done + 1) (sum_at sum before) text here r.reading
  pub taken_is : r.taken ≡ length text
  pub before_is : r.before ≡ last_size done
  pub ended_is : EndsAt (segment + length done + 1) (sum_at sum before) here r.ended

-- what was read of these bytes of the current file
abbrev pub HasRecovered : Result Read Damage → ℕ → List ℕ → List Left → List ℕ → List Commit → List ℕ → Recovering → Type 0
HasRecovered (Ok More) segment sum done text commits bytes r = IsRecovered segment sum done (text ++ bytes) commits r × (r.reading.whole ≡ false)
HasRecovered (Ok (Whole left)) segment sum done text commits bytes r = (used : List ℕ) × (rest : List ℕ) × (used ++ rest ≡ bytes) × (length rest ≡ left)
    × IsRecovered segment sum done (text ++ used) (commits ++ r.reading.records ∷ []) r × (r.reading.whole ≡ true)
HasRecovered (Err damage) segment sum done text commits bytes r = (before : List Commit) × (here : List Commit) × (commits ≡ before ++ here)
    × IsDamaged damage (segment + length done + 1) (sum_at sum before) (text ++ bytes)

-- Behind the text the current file has these bytes, of which this is left. Whatever comes after them, these commits are
-- all the first whole ones of the files, unless the file has 2^64 bytes or more.
abbrev pub AreAllFound : ℕ → List ℕ → List Left → List ℕ → List Commit → List ℕ → Recovering → List ℕ → Type 0
AreAllFound segment sum done text commits bytes r rest = HasShortHeader r.reading.segment r.reading.first → length (text ++ bytes) < 2 ^ 64
    → (more : List ℕ) → FoundAll segment sum (done ++ record { number = segment + length done + 1; bytes = text ++ (bytes ++ more) } ∷ [])
    commits (tail_of r.reading ++ (rest ++ more))

-- Damage was found in these bytes of the current file, and a front of them was taken: it is read, and what
-- follows it is not. No further whole commit comes next.
abbrev pub HasHalted : ℕ → List ℕ → List Left → List ℕ → List Commit → List ℕ → Recovering → Type 0
HasHalted segment sum done text commits bytes r = (used : List ℕ) × (rest : List ℕ) × (used ++ rest ≡ bytes)
    × IsRecovered segment sum done (text ++ used) commits r × AreAllFound segment sum done text commits bytes r rest

-- how many bytes of the current file are read: up to the last whole commit, or the first line, and those behind it
abbrev pub read_in : Recovering → ℕ
read_in r = if r.reading.begun
    then size_with (if r.ended == 0 then length (header_text r.reading.segment r.reading.first) else r.ended) (length (tail_of r.reading))
    else length (tail_of r.reading)

-- the byte after the whole commits, and the records that were read after them
abbrev pub place_of : ℕ → List ℕ → List Commit → Reading → ℕ
place_of number sum commits r = size_with (length (front r.begun number sum commits)) (if r.whole then 0 else length (joined r.records))

-- the file is whole, and the next one begins; or it is torn
abbrev pub HasEndedFile : Result (Unit {0}) Damage → ℕ → List ℕ → List Left → List ℕ → List Commit → Recovering → Type 0
HasEndedFile (Ok ended) segment sum done text commits r =
    IsRecovered segment sum (done ++ record { number = segment + length done + 1; bytes = text } ∷ []) [] commits r
HasEndedFile (Err damage) segment sum done text commits r = (before : List Commit) × (here : List Commit) × (commits ≡ before ++ here)
    × IsDamaged damage (segment + length done + 1) (sum_at sum before) text

-- These bytes after the first line of a snapshot were read, and these are their commits. The last one
-- is the one that became whole.
pub record IsUnpacked (segment : ℕ) (sum : List ℕ) (text : List ℕ) (commits : List Commit) (r : Recovering) : Type 0 where
  pub read : IsRead segment sum (header_text segment sum ++ text) commits r.reading
  pub taken_is : r.taken ≡ length (snapshot_line segment sum) + 1 + length text
  pub last : r.reading.whole ≡ true → (others : List Commit) × (commits ≡ others ++ r.reading.records ∷ [])

-- what was read of these bytes of a snapshot
abbrev pub HasUnpacked : Result Read Damage → ℕ → List ℕ → List ℕ → List Commit → List ℕ → Recovering → Type 0
HasUnpacked (Ok More) segment sum text commits bytes r = IsUnpacked segment sum (text ++ bytes) commits r × (r.reading.whole ≡ false)
HasUnpacked (Ok (Whole left)) segment sum text commits bytes r = (used : List ℕ) × (rest : List ℕ) × (used ++ rest ≡ bytes) × (length rest ≡ left)
    × IsUnpacked segment sum (text ++ used) (commits ++ r.reading.records ∷ []) r × (r.reading.whole ≡ true)
HasUnpacked (Err damage) segment sum text commits bytes r = IsDamaged damage segment sum (header_text segment sum ++ (text ++ bytes))
    ⊎ (2 ^ 64 ≤ length (snapshot_line segment sum ++ 10 ∷ (text ++ bytes)))

-- the bytes of a snapshot: its first line, commits, and a commit without records
pub record IsSnapshot (segment : ℕ) (sum bytes : List ℕ) (commits : List Commit) : Type 0 where
  pub bytes_are : bytes ≡ joined (snapshot_line segment sum ∷ commits_lines sum (commits ++ [] ∷ []))
  pub commits_are : AreCommits commits

-- the bytes after the first line are those of a snapshot, and the next are of the segment after it
pub record HasEndedSnapshot (segment : ℕ) (sum text : List ℕ) (commits : List Commit) (r : Recovering) : Type 0 where
  pub others : List Commit
  pub commits_are : commits ≡ others ++ [] ∷ []
  pub snapshot : IsSnapshot segment sum (snapshot_line segment sum ++ 10 ∷ text) others
  pub next : IsRecovered segment sum [] [] [] r

-- A writer goes on after all whole commits. If the last file has its first line, what comes after the
-- position's size is torn. If not, the file is to be removed, and the writer goes on in the file before
-- it, which has this size.
pub record IsPosition (segment : ℕ) (sum : List ℕ) (done : List Left) (text : List ℕ) (commits : List Commit) (r : Recovering) (p : Position) : Type 0 where
  pub sum_is : p.sum ≡ sum_at sum commits
  pub here : r.reading.begun ≡ true → p.segment ≡ segment + length done + 1
  pub size_is : r.reading.begun ≡ true → p.size + length (tail_of r.reading) ≡ length text
  pub before : r.reading.begun ≡ false → p.segment ≡ segment + length done
  pub before_is : r.reading.begun ≡ false → p.size ≡ last_size done

-- what was recovered, if these are all bytes of the last file, is found
abbrev pub RecoveryIsFound : Type 0
RecoveryIsFound = (segment : ℕ) (sum : List ℕ) (done : List Left) (text : List ℕ) (commits : List Commit) (r : Recovering)
    → IsRecovered segment sum done text commits r
    → FoundAll segment sum (done ++ record { number = segment + length done + 1; bytes = text } ∷ []) commits (tail_of r.reading)

-- these files, all of them synced
abbrev pub synced_files : List Left → List File
synced_files [] = []
synced_files (l ∷ left) = record { number = l.number; synced = l.bytes; unsynced = [] } ∷ synced_files left

-- the files that stay: with the last one up to this size, if it has its first line
abbrev pub files_kept : Bool → ℕ → List Left → List ℕ → ℕ → List File
files_kept true segment done text size = synced_files (done ++ record { number = segment + length done + 1; bytes = take size text } ∷ [])
files_kept false segment done text size = synced_files done

-- What was recovered, once what is torn was cut off and all is synced, is whole files with these
-- commits. The position is where a writer stands that begins with them.
abbrev pub RecoveredIsWhole : Type 0
RecoveredIsWhole = (segment : ℕ) (sum : List ℕ) (done : List Left) (text : List ℕ) (commits : List Commit) (r : Recovering) (p : Position)
    → IsRecovered segment sum done text commits r → IsPosition segment sum done text commits r p
    → AreWhole segment sum (files_kept r.reading.begun segment done text p.size) commits
    × (p.segment ≡ segment + length (files_kept r.reading.begun segment done text p.size)) × (p.sum ≡ sum_at sum commits)
