-- The journal over a story.
--     journal_after, journal_since    the journal after a moment, and after a story
--     IsSettled j                     answers may be written: all records are kept, and synced if they have to be
--     IsJournaled j story             at each moment, what was kept, and that answers were written only then, to
--                                     clients and to the operator
--     Carries, AreKept, AreSettled    the same, if there is a journal
use Rattle.std.specs.Prelude.{◌≡◌, ℕ, ◌+◌, ◌<◌, Bool, true, false, List, [], ◌∷◌, ◌++◌, length, IsTrue, is_some, Option, Some, None}
use Rattle.judy_journal.specs.Acts.{DiskAct, IsWriting, Phase as FilePhase, Journal as Written}
use Rattle.judy_journal.specs.Acts.DiskAct.{Began as FileBegan, Kept as FileKept, Synced as FileSynced}
use Rattle.judy_journal.specs.Acts.Phase.{Bare, Headed}
use Rattle.judy_journal.specs.Journals.{Commit, is_commit, sum_after}
use Rattle.judy_journal.specs.Writes.{all_records, commit_text, header_text, size_with}
use Rattle.judy_many.specs.Books.{Journal, commit_of, noted}
use Rattle.judy_many.specs.declared.serve.Limits.{Limits}
use Rattle.judy_many.specs.declared.network.Sync.{Sync}
use Rattle.judy_many.specs.declared.network.Sync.TheVariants as sync
use Rattle.judy_many.specs.Nets.{Act, Acts, DidLog}
use Rattle.judy_many.specs.Nets.Act.{Wrote, Failed, Replied, Began, Kept, Unkept, Synced, Unsynced}
use Rattle.judy_journal.specs.Leaving.{gone_records}
use Rattle.judy_many.specs.Sessions.{records_in}
use Rattle.judy_many.specs.Stories.{Moment, Story, acts_in, recorded_in, told}
use Rattle.judy_many.specs.Stories.Moment.{Changed, Did, Ran}

-- after a text was kept: it is the header of the segment, or a commit of all records and a note
abbrev pub kept_after : Bool → Journal → Journal
kept_after true j = record j {
  size = size_with j.size (length (commit_text j.sum (commit_of j)));
  sum = sum_after j.sum (commit_of j);
  records = [];
  clean = false;
}
kept_after false j = record j { begun = true; size = length (header_text j.segment j.sum); clean = false }

abbrev pub journal_after : Journal → Moment → Journal
journal_after j (Did (Began k)) = record j { segment = k; begun = false; size = 0; synced = 0 }
journal_after j (Did (Kept text)) = kept_after j.begun j
journal_after j (Did Synced) = record j { synced = j.size; clean = true }
journal_after j (Ran n turns) = noted (records_in turns) j
journal_after j (Changed text left) = noted (gone_records left) j
journal_after j moment = j

abbrev pub journal_since : Journal → Story → Journal
journal_since j [] = j
journal_since j (m ∷ story) = journal_since (journal_after j m) story

-- where each round is synced, all that was kept is synced before anything is answered
abbrev pub IsSecured : Sync → Bool → Type 0
IsSecured sync.Round clean = clean ≡ true
IsSecured (sync.Seconds s) clean = Unit {0}
IsSecured sync.Never clean = Unit {0}

-- the records of all lines that were run and of all tenants that left are kept, and synced if they have to be
abbrev pub IsSettled : Journal → Type 0
IsSettled j = (j.records ≡ []) × IsSecured j.rule j.clean

-- what may be kept: one commit of all records since the last one, with a note of how much of the segment is
-- synced; or, in a new segment, its header
abbrev pub IsText : Bool → Journal → List ℕ → Type 0
IsText true j text = (0 < length j.records) × IsTrue (is_commit (commit_of j)) × (text ≡ commit_text j.sum (commit_of j))
IsText false j text = text ≡ header_text j.segment j.sum

-- the next segment begins where all of the one before it is kept and synced
pub record IsNext (j : Journal) (segment : ℕ) : Type 0 where
  pub number : segment ≡ j.segment + 1
  pub begun : j.begun ≡ true
  pub none : j.records ≡ []
  pub clean : j.clean ≡ true

-- what may happen next, by the journal before it
abbrev pub MayHappen : Journal → Moment → Type 0
MayHappen j (Did (Wrote m bytes)) = IsSettled j
MayHappen j (Did (Failed m)) = IsSettled j
MayHappen j (Did (Replied text)) = IsSettled j
MayHappen j (Did (Began k)) = IsNext j k
MayHappen j (Did (Kept text)) = IsText j.begun j text
MayHappen j moment = Unit {0}

abbrev pub IsJournaled : Journal → Story → Type 0
IsJournaled j [] = Unit {0}
IsJournaled j (m ∷ story) = MayHappen j m × IsJournaled (journal_after j m) story

-- ---- if there is a journal

-- what was kept over a story, and that answers were written only where it was
abbrev pub AreKept : Option Journal → Story → Type 0
AreKept None story = Unit {0}
AreKept (Some j) story = IsJournaled j story

-- the same, and the journal after it
abbrev pub Carries : Option Journal → Story → Option Journal → Type 0
Carries None story after = after ≡ None
Carries (Some j) story after = IsJournaled j story × (after ≡ Some (journal_since j story))

abbrev pub AreSettled : Option Journal → Type 0
AreSettled None = Unit {0}
AreSettled (Some j) = IsSettled j

-- there is a journal only where there is a rule when it is synced
abbrev pub MayKeep : Limits → Option Journal → Type 0
MayKeep limits None = Unit {0}
MayKeep limits (Some j) = is_some limits.journal ≡ true

-- ---- as the acts of a writer

-- the acts on the disk among the answers of the system
abbrev pub disk_act : Act → List DiskAct
disk_act (Began k) = FileBegan k ∷ []
disk_act (Kept text) = FileKept text ∷ []
disk_act Synced = FileSynced ∷ []
disk_act act = []

abbrev pub disk_acts : List Act → List DiskAct
disk_acts [] = []
disk_acts (a ∷ acts) = disk_act a ++ disk_acts acts

-- where the writer is, with these commits on the disk and these kept since
abbrev pub phase_of : Bool → FilePhase
phase_of true = Headed
phase_of false = Bare

abbrev pub writer_at : Journal → List Commit → List Commit → Written
writer_at j kept more = record { segment = j.segment; sum = j.sum; phase = phase_of j.begun; clean = j.clean; kept = kept; more = more }

-- What is on the disk after a story: commits that are synced, and commits that were kept since. Their
-- records, and those that are to be kept, are those of all lines that were run and of all tenants that left, in
-- order.
abbrev pub IsOnDisk : Journal → List Commit → List Commit → Story → List Commit → List Commit → Type 0
IsOnDisk j kept more story kept' more' =
    IsWriting (writer_at j kept more) (disk_acts (acts_in story)) (writer_at (journal_since j story) kept' more')
    × (all_records (kept' ++ more') ++ (journal_since j story).records ≡ (all_records (kept ++ more) ++ j.records) ++ recorded_in story)
    × ((journal_since j story).clean ≡ true → more' ≡ [])

-- The acts of the loop are those of a writer, at each moment.
abbrev pub StoriesAreWritten : Type 0
StoriesAreWritten = (j : Journal) (kept more : List Commit) (story p q : Story) → IsJournaled j story → (j.clean ≡ true → more ≡ []) → story ≡ p ++ q
    → (kept' : List Commit) × (more' : List Commit) × IsOnDisk j kept more p kept' more'

-- Before an answer is written, the records of all lines that were run and of all tenants that left are on the
-- disk, or kept; where each round is synced, they are on the disk.
abbrev pub AnswersAreKept : Type 0
AnswersAreKept = (j : Journal) (kept more : List Commit) (story p q : Story) (n : ℕ) (bytes : List ℕ) → IsJournaled j story → (j.clean ≡ true → more ≡ [])
    → story ≡ p ++ Did (Wrote n bytes) ∷ q
    → (kept' : List Commit) × (more' : List Commit) × IsOnDisk j kept more p kept' more'
    × (all_records (kept' ++ more') ≡ (all_records (kept ++ more) ++ j.records) ++ recorded_in p) × (j.rule ≡ sync.Round → more' ≡ [])

-- So it is before the operator is answered: a table from which tenants are gone is answered when their record is kept.
abbrev pub RepliesAreKept : Type 0
RepliesAreKept = (j : Journal) (kept more : List Commit) (story p q : Story) (text : List ℕ) → IsJournaled j story → (j.clean ≡ true → more ≡ [])
    → story ≡ p ++ Did (Replied text) ∷ q
    → (kept' : List Commit) × (more' : List Commit) × IsOnDisk j kept more p kept' more'
    × (all_records (kept' ++ more') ≡ (all_records (kept ++ more) ++ j.records) ++ recorded_in p) × (j.rule ≡ sync.Round → more' ≡ [])

-- ---- what is asked of the system for the journal

-- the journal was written
abbrev pub IsKeeping : Act → Type 0
IsKeeping (Began k) = Unit {0}
IsKeeping (Kept text) = Unit {0}
IsKeeping Synced = Unit {0}
IsKeeping act = ⊥

abbrev pub AreKeeping : List Act → Type 0
AreKeeping [] = Unit {0}
AreKeeping (a ∷ acts) = IsKeeping a × AreKeeping acts

-- writing to it failed
abbrev pub IsFailure : Act → Type 0
IsFailure Unkept = Unit {0}
IsFailure Unsynced = Unit {0}
IsFailure act = ⊥

-- these were the answers, and the journal afterwards
pub record Writes (before : Journal) (acts : List Act) (after : Journal) : Type 0 where
  pub keeping : AreKeeping acts
  pub kept : IsJournaled before (told acts)
  pub after_is : after ≡ journal_since before (told acts)

-- the journal was written; or that failed, which is the last answer
abbrev pub HasWritten : Bool → Journal → Journal → Acts → Acts → Type 0
HasWritten true before after log log' = (acts : List Act) × DidLog log acts log' × Writes before acts after
HasWritten false before after log log' = (acts : List Act) × (mid : Acts) × (reached : Journal) × (last : Act)
    × DidLog log acts mid × Writes before acts reached × IsFailure last × DidLog mid (last ∷ []) log'

-- the same, if there is a journal
abbrev pub AreWritten : Bool → Option Journal → Option Journal → Acts → Acts → Type 0
AreWritten true None after log log' = (after ≡ None) × DidLog log [] log'
AreWritten false None after log log' = ⊥
AreWritten true (Some j) None log log' = ⊥
AreWritten true (Some j) (Some k) log log' = HasWritten true j k log log'
AreWritten false (Some j) after log log' = HasWritten false j j log log'
