-- What `judyd serve` does with a journal.
--     Replay S                        how records are played to a service of kind S
--     HasGoneOn replay kept fresh at before   records were played to a new service without its quotas; then its table was
--                                     put in force
--     HasLooked replay kept fresh after       the same, and nobody goes on with the journal
--     HasMade at w log log'           this writer goes on there, and the next segment was begun first if it had to be
--     HasNotPlayed ..                 why a service without its quotas does not go on with the journal
--     HasNotGoneOn ..                 why nobody goes on with the journal, and all that was done since the service began
--     HasNoJournal ..                 there is a service, and the journal cannot be gone on with
--     HasServedOn ..                  there is a service, the journal was played to it, and connections were served with it
--     HostsJournaled hosted ..        the whole
-- The service with which serving begins is the new one of the table after exactly the records that were read: those
-- of a snapshot, if there is one, and of the whole commits of the segments after it, in order. No quota was in force
-- while they were played, since each of them was admitted once; then the table was put in force. The writer goes on
-- behind these commits, with their checksum. What was read is what the directory may have (`has`). For the disk of
-- a real system this says nothing: that it gives the bytes that an earlier run has written is what the system promises.
use Rattle.std.specs.Prelude.{◌≡◌, ◌⊎◌, ◌≤◌, ℕ, true, false, List, [], Option, Some}
use Rattle.judy_journal.specs.Writes.{Writing, begun}
use Rattle.judy_journal.specs.declared.format.TheConstants.{LAST_SEGMENT}
use Rattle.judy_many.specs.Books.{journal_of}
use Rattle.judy_many.specs.Journaling.{HasWritten}
use Rattle.judy_many.specs.Rules.{Rules}
use Rattle.judy_many.specs.declared.network.Sync.{Sync}
use Rattle.judy_many.specs.declared.serve.Limits.{Limits}
use Rattle.judy_programs.specs.Asking.{Log}
use Rattle.judy_programs.specs.Hosting.{Desks, HasBegun, Refuses, Serves}
use Rattle.judy_programs.specs.declared.socket.Hosted.{Hosted}
use Rattle.judy_programs.specs.declared.socket.Hosted.TheVariants as hosted
use Rattle.judy_recovery.specs.Whole.{HasPlayedJournal, HasResumed, Kept}
use Rattle.judy_recovery.specs.declared.resuming.Resumed.{Resumed}
use Rattle.judy_table.specs.declared.tenant.Tenant.{Tenant}

-- How records are played to a service of kind S: the quotas of a table are taken away, records are played, and a
-- table is put in force.
pub record Replay (S : Type 0) : Type 1 where
  pub lifted : S → List Tenant → S → Type 0
  pub replayed : S → List (List ℕ) → S → Type 0
  pub limited : S → List Tenant → S → Type 0

abbrev pub replay_of : {S : Type 0} → (S → List Tenant → S → Type 0) → (S → List (List ℕ) → S → Type 0) → (S → List Tenant → S → Type 0) → Replay S
replay_of lifted replayed limited = record { lifted = lifted; replayed = replayed; limited = limited }

-- The quotas of the new service were taken away, and the records of a journal were played to it. Then the table that
-- has these quotas was put in force. A writer goes on behind the journal.
pub record HasGoneOn {S : Type 0} (replay : Replay S) (kept : Kept) (fresh : S) (at : Resumed) (before : S) : Type 0 where
  pub table : List Tenant
  pub free : S
  pub lifted : replay.lifted fresh table free
  pub played : S
  pub resumed : HasResumed replay.replayed kept free at played
  pub limited : replay.limited played table before

-- The same, and nobody goes on with the journal.
pub record HasLooked {S : Type 0} (replay : Replay S) (kept : Kept) (fresh after : S) : Type 0 where
  pub table : List Tenant
  pub free : S
  pub lifted : replay.lifted fresh table free
  pub played : S
  pub read : HasPlayedJournal replay.replayed kept free played
  pub limited : replay.limited played table after

-- a writer that goes on there, and has no record yet
abbrev pub writer_there : Resumed → Writing
writer_there at = record { segment = at.segment; sum = at.sum; size = at.size; synced = at.size; records = []; text = [] }

-- the file of the segment after that of this writer was made, with its header, and synced
abbrev pub HasOpenedNext : Writing → Writing → Log → Log → Type 0
HasOpenedNext old w log log' = (w ≡ begun old)
    × ((rule : Sync) → HasWritten true (journal_of rule true old) (journal_of rule true w) log log')

-- the writer goes on in the file that is there, or in the next one
abbrev pub HasMade : Resumed → Writing → Log → Log → Type 0
HasMade at w log log' = ((at.begins ≡ false) × (w ≡ writer_there at) × (log' ≡ log))
    ⊎ ((at.begins ≡ true) × HasOpenedNext (writer_there at) w log log')

-- the segment after that of this writer can't be begun: there is none, or its file can't be made, written or synced
abbrev pub HasFailedNext : Writing → Log → Log → Type 0
HasFailedNext old log log' = ((LAST_SEGMENT ≤ old.segment) × (log' ≡ log))
    ⊎ ((rule : Sync) → HasWritten false (journal_of rule true old) (journal_of rule true (begun old)) log log')

-- there is no writer that goes on there: no memory for it, or the next segment can't be begun
abbrev pub HasNoWriter : Resumed → Hosted → Log → Log → Type 0
HasNoWriter at how log log' = ((how ≡ hosted.Memory) × (log' ≡ log))
    ⊎ ((how ≡ hosted.Journal) × (at.begins ≡ true) × HasFailedNext (writer_there at) log log')

-- The journal can't be played to a service without its quotas: that is a fault of the journal, and nothing more was
-- done. Or it was played, and there is no writer that goes on behind it.
abbrev pub HasNotPlayed : {S : Type 0} → Replay S → (Kept → Type 0) → S → Hosted → Log → Log → Type 0
HasNotPlayed {S} replay has fresh how log log' = ((how ≡ hosted.Recovery) × (log' ≡ log))
    ⊎ ((kept : Kept) × (at : Resumed) × (before : S) × has kept × HasGoneOn replay kept fresh at before × HasNoWriter at how log log')

-- The journal can't be played, or there is no memory for that: then nothing more was done. Or it was played, and
-- there is no writer that goes on behind it.
abbrev pub HasNotGoneOn : {S : Type 0} → Replay S → (Kept → Type 0) → S → Hosted → Log → Log → Type 0
HasNotGoneOn {S} replay has fresh how log log' = (((how ≡ hosted.Recovery) ⊎ (how ≡ hosted.Memory)) × (log' ≡ log))
    ⊎ ((kept : Kept) × (at : Resumed) × (before : S) × has kept × HasGoneOn replay kept fresh at before × HasNoWriter at how log log')

-- a service is new by how many megabytes were taken for its arrays; so many are wanted, if any are. Records can be
-- played to it (`replay`). The directory may have some journal (`has`)
module _ {S : Type 0} (rules : Rules S) (replay : Replay S) (has : Kept → Type 0)
    (is_new : Option ℕ → List Tenant → S → Type 0) (reserve : Option ℕ) where
  -- the file gave a service, and the journal cannot be gone on with. No socket was made
  pub record HasNoJournal (how : Hosted) (config : List ℕ) (log log' : Log) : Type 0 where
    pub fresh : S
    pub start : Log
    pub begun : HasBegun (is_new reserve) config log start fresh
    pub cause : HasNotGoneOn replay has fresh how start log'

  -- The file gave a service, and the records of the journal were played to it. The writer goes on behind them.
  -- Then the sockets were made, and the connections that came were served by the service that had played them: no
  -- answer was written before what it tells was kept in the journal.
  pub record HasServedOn (how : Hosted) (config socket : List ℕ) (watch : Desks) (limits : Limits) (log log' : Log) : Type 0 where
    pub fresh : S
    pub start : Log
    pub begun : HasBegun (is_new reserve) config log start fresh
    pub kept : Kept
    pub read : has kept
    pub at : Resumed
    pub before : S
    pub played : HasGoneOn replay kept fresh at before
    pub writer : Writing
    pub ready : Log
    pub made : HasMade at writer start ready
    pub after : S
    pub served : Serves rules how socket watch limits (Some writer) ready log' before after

  abbrev pub HostsJournaled : Hosted → List ℕ → List ℕ → Desks → Limits → Log → Log → Type 0
  HostsJournaled how config socket watch limits log log' = Refuses is_new reserve how config log log'
      ⊎ HasNoJournal how config log log' ⊎ HasServedOn how config socket watch limits log log'

-- the table's file gave a service, and its journal can be played; or why not
module _ {S : Type 0} (replay : Replay S) (has : Kept → Type 0)
    (is_new : Option ℕ → List Tenant → S → Type 0) (reserve : Option ℕ) where
  -- the file gave a service, the records of the journal were played to it, and its table was put in force
  pub record HasPlayedAll (config : List ℕ) (log log' : Log) : Type 0 where
    pub fresh : S
    pub begun : HasBegun (is_new reserve) config log log' fresh
    pub kept : Kept
    pub read : has kept
    pub after : S
    pub played : HasLooked replay kept fresh after

  abbrev pub ChecksJournaled : Hosted → List ℕ → Log → Log → Type 0
  ChecksJournaled how config log log' = Refuses is_new reserve how config log log'
      ⊎ ((how ≡ hosted.Done) × HasPlayedAll config log log')
      ⊎ (((how ≡ hosted.Recovery) ⊎ (how ≡ hosted.Memory)) × ((fresh : S) × HasBegun (is_new reserve) config log log' fresh))
