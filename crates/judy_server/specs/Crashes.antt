-- A server that crashed, and a service that has played what is left of its journal.
--     answered_in turns     the calls, each with its speaker and its reply
--     IsNew service         a service of a table, where no tenant has an entry
--     Stock                 a journal: the records of a snapshot, whole files, and their commits
--     records_with s cs     all records, where the files have these commits
--     HasBegunWith rs t     a new service played these records without its quotas; then its table was put in force
--     HasResumed s w t      the service has played this journal, and the writer goes on with it
--     HasCrashed s j story t   the crash came after this story; what it left was played on a new service
--     AreHalves d r story   a story is cut in two, between two moments or within the lines of one
--     IsRestored ..         the arrays are those after the first half, which has all that was answered
--     CrashesLoseNothing    so it is after a crash at any moment of any run
--     StartsGoOn            a server that starts with a journal has played it, and goes on behind it
use Rattle.std.specs.Prelude.{◌≡◌, ◌≢◌, ◌⊎◌, ◌<◌, ◌+◌, ◌^◌, ℕ, true, List, [], ◌∷◌, ◌++◌, length, zip, IsTrue, Option, Some}
use Rattle.judy_journal.specs.Acts.{AreWhole, File, Left, MayLeaveAll, disk_after}
use Rattle.judy_journal.specs.Crashes.{FoundAll}
use Rattle.judy_journal.specs.Journals.{Commit, is_line, sum_at}
use Rattle.judy_journal.specs.Writes.{Writing, all_records}
use Rattle.judy_model.specs.declared.replies.Reply.{Reply}
use Rattle.judy_model.specs.Speakers.{Event}
use Rattle.judy_many.specs.Books.{Journal, journal_of}
use Rattle.judy_many.specs.Crowds.{HasServedMany}
use Rattle.judy_many.specs.Journaling.{disk_acts, journal_since}
use Rattle.judy_many.specs.Nets.{Acts}
use Rattle.judy_many.specs.Nets.Act.{Replied, Wrote}
use Rattle.judy_many.specs.Sessions.{Turn, calls_of}
use Rattle.judy_many.specs.Statuses.{Lasts}
use Rattle.judy_many.specs.Stories.{Story, acts_in, recorded_in, turns_in}
use Rattle.judy_many.specs.Stories.Moment.{Did, Ran}
use Rattle.judy_many.specs.declared.network.Sync.{Sync}
use Rattle.judy_many.specs.declared.network.Sync.TheVariants as sync
use Rattle.judy_many.specs.declared.serve.Ending.{Ending}
use Rattle.judy_many.specs.declared.serve.Limits.{Limits}
use Rattle.judy_programs.specs.Asking.{Log}
use Rattle.judy_programs.specs.Hosting.{Desks}
use Rattle.judy_programs.specs.Journaled.{HasServedOn}
use Rattle.judy_programs.specs.declared.socket.Hosted.{Hosted}
use Rattle.judy_recovery.specs.Whole.{Kept, segment_before}
use Rattle.judy_table.specs.declared.tenant.Tenant.{Tenant}
use Rattle.judy_server.specs.Named.{HaveSame}
use Rattle.judy_server.specs.Limits.{IsLifted, IsLimited, server_replay}
use Rattle.judy_server.specs.Replays.{AreReplayed}
use Rattle.judy_server.specs.Rules.{server_rules}
use Rattle.judy_server.specs.Served.{IsNewService}
use Rattle.judy_server.specs.Tally.{Tallied}

-- the calls, each with its speaker and its reply
abbrev pub answered_in : List Turn → List (Event × Reply)
answered_in [] = []
answered_in (t ∷ turns) = zip (calls_of t) t.replies ++ answered_in turns

-- a service of some table, where no tenant has an entry
abbrev pub IsNew : Tallied → Type 0
IsNew service = (secret : List ℕ) × (reserve : Option ℕ) × (table : List Tenant) × IsNewService secret reserve table service

-- ---- the journal before and after

-- What a server begins with: the records of a snapshot, if there is one; the number of the segment that it
-- stands for, and its last checksum; the files of the later segments, and the commits in them.
pub record Stock : Type 0 where
  pub snapshot : Commit
  pub segment : ℕ
  pub sum : List ℕ
  pub files : List File
  pub commits : List Commit

-- all records, in order, where the files have these commits
abbrev pub records_with : Stock → List Commit → Commit
records_with s commits = s.snapshot ++ all_records commits

-- The quotas of a new service were taken away, and these records were played on it. Then its table was put in
-- force. It is now this service.
pub record HasBegunWith (records : Commit) (service : Tallied) : Type 0 where
  pub first : Tallied
  pub new : IsNew first
  pub table : List Tenant
  pub free : Tallied
  pub lifted : IsLifted first table free
  pub played : Tallied
  pub are : AreReplayed free records played
  pub limited : IsLimited played table service

-- The files are whole and synced, and the writer goes on after them. The service has begun with all of their
-- records.
pub record HasResumed (s : Stock) (w : Writing) (service : Tallied) : Type 0 where
  pub line : IsTrue (is_line s.sum)
  pub some : s.files ≢ []
  pub whole : AreWhole s.segment s.sum s.files s.commits
  pub segment_is : w.segment ≡ s.segment + length s.files
  pub sum_is : w.sum ≡ sum_at s.sum s.commits
  pub none : w.records ≡ []
  pub started : HasBegunWith (records_with s s.commits) service

-- The machine crashed after this story. These files are left, with all that was synced and any bytes behind it, and
-- these commits are found in them: the checksums tell what was not written. This service has begun with all records.
pub record HasCrashed (s : Stock) (j : Journal) (story : Story) (restored : Tallied) : Type 0 where
  pub few : (journal_since j story).segment < 2 ^ 64
  pub left : List Left
  pub leaves : MayLeaveAll (disk_after s.files (disk_acts (acts_in story))) left
  pub found : List Commit
  pub tail : List ℕ
  pub is_found : FoundAll s.segment s.sum left found tail
  pub started : HasBegunWith (records_with s found) restored

-- ---- what is restored

-- A story is cut within the lines of one connection that were run at one moment.
pub record IsCutWithin (done rest story : Story) : Type 0 where
  pub earlier : Story
  pub later : Story
  pub number : ℕ
  pub first : List Turn
  pub others : List Turn
  pub done_is : done ≡ earlier ++ Ran number first ∷ []
  pub rest_is : rest ≡ Ran number others ∷ later
  pub story_is : story ≡ earlier ++ Ran number (first ++ others) ∷ later

-- These are the halves of a story: it is cut between two moments, or within the lines of one.
abbrev pub AreHalves : Story → Story → Story → Type 0
AreHalves done rest story = (done ++ rest ≡ story) ⊎ IsCutWithin done rest story

-- a story begins with all of another
abbrev pub HasAllOf : Story → Story → Type 0
HasAllOf done p = (more : Story) × (done ≡ p ++ more)

-- The arrays are those of the service at one moment, after the first half of a story and before the other.
pub record IsRestored (rule : Sync) (before : Tallied) (story : Story) (after restored : Tallied) : Type 0 where
  pub done : Story
  pub rest : Story
  pub mid : Tallied
  pub halves : AreHalves done rest story
  pub lines : turns_in done ++ turns_in rest ≡ turns_in story
  pub run : Lasts server_rules true before done mid
  pub later : Lasts server_rules true mid rest after
  pub same : HaveSame mid restored
  -- where each round is synced, the first half has all that came before an answer of which a byte was written:
  -- all lines, and all tables that were put in force
  pub answered : rule ≡ sync.Round → (p q : Story) (n : ℕ) (bytes : List ℕ) → story ≡ p ++ Did (Wrote n bytes) ∷ q → HasAllOf done p
  -- so it has all that came before the operator was answered: the table that was put in force, and who left with it
  pub replied : rule ≡ sync.Round → (p q : Story) (text : List ℕ) → story ≡ p ++ Did (Replied text) ∷ q → HasAllOf done p
  -- where no record is lost, they are the arrays at the end of the story
  pub whole : recorded_in rest ≡ [] → HaveSame after restored

-- A server has played its journal, and has served many clients. It crashes at any moment.
abbrev pub CrashesLoseNothing : Type 0
CrashesLoseNothing = (s : Stock) (limits : Limits) (rule : Sync) (w : Writing) (how : Ending) (log log' : Acts) (before after restored : Tallied)
    → (h : HasServedMany server_rules limits (Some w) how log log' before after) → limits.journal ≡ Some rule
    → (story later : Story) → h.story ≡ story ++ later
    → HasResumed s w before → HasCrashed s (journal_of rule true w) story restored
    → (now : Tallied) × Lasts server_rules true before story now × IsRestored rule before story now restored

-- A server that started with a journal has played it on the new service of its table, and its writer goes on behind
-- it. The snapshot, the segment that it stands for and its checksum are those of the directory. The table of its file
-- is in force, with its quotas.
abbrev pub StartsGoOn : Type 1
StartsGoOn = (has : Kept → Type 0) (secret : List ℕ) (reserve : Option ℕ) (how : Hosted) (config socket : List ℕ) (watch : Desks) (limits : Limits) (log log' : Log)
    → (h : HasServedOn server_rules server_replay has (IsNewService secret) reserve how config socket watch limits log log')
    → (s : Stock) × (s.snapshot ≡ all_records h.kept.unpacked) × (s.segment ≡ segment_before h.kept.snapshot) × (s.sum ≡ h.kept.sum)
    × (resumed : HasResumed s h.writer h.before) × (resumed.started.first ≡ h.fresh) × (h.before.held.tenants ≡ h.begun.opened.tenants)
