-- What a writer of a journal does to a disk, and what a crash leaves of it.
--     DiskAct                          one act: a file begun, bytes kept, all of them synced
--     disk_after files acts            the files after these acts
--     MayLeaveAll files left           a crash at this moment may leave these files
--     IsWriting journal acts last      the acts are those of a writer of a journal
use Rattle.std.specs.Prelude.{◌≡◌, ◌⊎◌, ℕ, Bool, true, false, List, [], ◌∷◌, ◌++◌, ◌+◌, length, IsTrue}
use Rattle.judy_journal.specs.Disks.{MayLeave}
use Rattle.judy_journal.specs.Journals.{Commit, is_commit, journal_text, sum_after, sum_at}
use Rattle.judy_journal.specs.Recoveries.{IsTold}
use Rattle.judy_journal.specs.Writes.{commit_text, header_text}

-- the file of this segment was made, empty, and its directory synced; these bytes were put at the end
-- of the current file; all of the current file was synced
pub data DiskAct : Type 0 where
  Began : ℕ → DiskAct
  Kept : List ℕ → DiskAct
  Synced : DiskAct

-- a segment's file: its number, the bytes that are synced, and those after them
pub record File : Type 0 where
  pub number : ℕ
  pub synced : List ℕ
  pub unsynced : List ℕ

-- all that was written to it
abbrev pub written : File → List ℕ
written f = f.synced ++ f.unsynced

-- the files, the oldest first, after these acts on the current one
abbrev pub files_after : File → List DiskAct → List File
files_after f [] = f ∷ []
files_after f (Began number ∷ acts) = f ∷ files_after (record { number = number; synced = []; unsynced = [] }) acts
files_after f (Kept bytes ∷ acts) = files_after (record f { unsynced = f.unsynced ++ bytes }) acts
files_after f (Synced ∷ acts) = files_after (record f { synced = written f; unsynced = [] }) acts

-- the same, from these files on: the last of them is the current one
abbrev pub disk_after : List File → List DiskAct → List File
disk_after [] [] = []
disk_after [] (Began number ∷ acts) = files_after (record { number = number; synced = []; unsynced = [] }) acts
disk_after [] (Kept bytes ∷ acts) = disk_after [] acts
disk_after [] (Synced ∷ acts) = disk_after [] acts
disk_after (f ∷ []) acts = files_after f acts
disk_after (f ∷ g ∷ files) acts = f ∷ disk_after (g ∷ files) acts

-- a file that is found: its number and its bytes
pub record Left : Type 0 where
  pub number : ℕ
  pub bytes : List ℕ

-- A crash leaves each file, with all of its synced bytes and any behind them. What is found in it was written to it.
-- It may leave one more file, which was being made: its name may be there before the directory is synced, and nothing
-- was written to it.
abbrev pub MayLeaveAll : List File → List Left → Type 0
MayLeaveAll [] [] = Unit {0}
MayLeaveAll [] (l ∷ left) = (left ≡ []) × IsTold l.number [] l.bytes
MayLeaveAll (f ∷ files) [] = ⊥
MayLeaveAll (f ∷ files) (l ∷ left) =
    (l.number ≡ f.number) × MayLeave f.synced l.bytes × IsTold f.number (written f) l.bytes × MayLeaveAll files left

-- the current file: there is none yet, it is empty, or it has its first line
pub data Phase : Type 0 where
  Absent : Phase
  Bare : Phase
  Headed : Phase

-- where a writer is: the number of the current segment, the checksum after the last commit, whether all
-- is synced, the commits that are synced, and those after them
pub record Journal : Type 0 where
  pub segment : ℕ
  pub sum : List ℕ
  pub phase : Phase
  pub clean : Bool
  pub kept : List Commit
  pub more : List Commit

-- the next segment begins once all of the current one is synced
pub record Begins (j : Journal) (number : ℕ) (k : Journal) : Type 0 where
  pub number_is : number ≡ j.segment + 1
  pub done : (j.phase ≡ Absent) ⊎ (j.phase ≡ Headed)
  pub clean : j.clean ≡ true
  pub now : k ≡ record j { segment = number; phase = Bare }

-- a segment's first line
pub record Heads (j : Journal) (text : List ℕ) (k : Journal) : Type 0 where
  pub bare : j.phase ≡ Bare
  pub text_is : text ≡ header_text j.segment j.sum
  pub now : k ≡ record j { phase = Headed; clean = false }

-- one whole commit
pub record Commits (j : Journal) (text : List ℕ) (k : Journal) : Type 0 where
  pub headed : j.phase ≡ Headed
  pub commit : Commit
  pub commit_is : IsTrue (is_commit commit)
  pub text_is : text ≡ commit_text j.sum commit
  pub now : k ≡ record j { sum = sum_after j.sum commit; clean = false; more = j.more ++ commit ∷ [] }

-- one act of a writer
abbrev pub Goes : Journal → DiskAct → Journal → Type 0
Goes j (Began number) k = Begins j number k
Goes j (Kept text) k = Heads j text k ⊎ Commits j text k
Goes j Synced k = k ≡ record j { clean = true; kept = j.kept ++ j.more; more = [] }

-- the acts of a writer, in order
abbrev pub IsWriting : Journal → List DiskAct → Journal → Type 0
IsWriting j [] last = last ≡ j
IsWriting j (act ∷ acts) last = (k : Journal) × Goes j act k × IsWriting k acts last

-- the file is synced, and has the whole text of these commits
pub record IsWhole (number : ℕ) (sum : List ℕ) (f : File) (commits : List Commit) : Type 0 where
  pub number_is : f.number ≡ number
  pub synced_is : f.synced ≡ journal_text number sum commits
  pub unsynced_is : f.unsynced ≡ []
  pub commits_are : IsTrue (Rattle.std.specs.List.list_all is_commit commits)

-- the files of the segments after this one have these commits, and are synced
abbrev pub AreWhole : ℕ → List ℕ → List File → List Commit → Type 0
AreWhole segment sum [] commits = commits ≡ []
AreWhole segment sum (f ∷ files) commits = (here : List Commit) × (later : List Commit) × (commits ≡ here ++ later)
    × IsWhole (segment + 1) sum f here × AreWhole (segment + 1) (sum_at sum here) files later

-- a writer that begins with these files: none, or the last one is the current one
abbrev pub phase_with : List File → Phase
phase_with [] = Absent
phase_with (f ∷ files) = Headed

abbrev pub standing : ℕ → List ℕ → List File → List Commit → Journal
standing segment sum files commits = record {
  segment = segment + length files;
  sum = sum_at sum commits;
  phase = phase_with files;
  clean = true;
  kept = commits;
  more = [];
}
