-- What the result of `run` means, in the words of docs/PROMISES.md, and what opening a table's file
-- means.
--     run-reads       `run` makes at most 2^32 + 65,541 reads that give bytes
--     run-limit       `Limit` comes only after 2^32 of them
--     run-flushed     nothing waits for a flush at the end, unless a write failed
--     cut-words       a failed write of `WORDS n` leaves a front of that line
--     opened-whole    a service was opened from the whole file, of at most 65,536 bytes
--     shut-long       the fault `Long` comes exactly for more bytes
--     shut-config     a failed read comes before that
--     shut-table      a fault of the table is that of the whole file
--     shut-memory     `Memory` comes for a table without fault
use Rattle.std.specs.Prelude.{◌≡◌, ◌≢◌, ◌⊎◌, ℕ, ◌+◌, ◌<◌, ◌≤◌, Bool, List, ◌++◌, length, Ok, Err}
use Rattle.std.specs.Io.KnownBytes.{Consumes, Appends, IsAtEnd}
use Rattle.std.proofs.Common.{inl, inr}
use Rattle.judy_stream.specs.Streams.{IsFlushed}
use Rattle.judy_protocol.specs.Services.{Made, Seen}
use Rattle.judy_protocol.specs.Serving.{MaybeBytes, Wire}
use Rattle.judy_protocol.specs.declared.gathering.Batch.{Batch}
use Rattle.judy_protocol.specs.declared.connection.End.TheVariants as ends
use Rattle.judy_table.specs.Tenants.{read_table}
use Rattle.judy_table.specs.declared.fault.TableFault.{TableFault}
use Rattle.judy_table.specs.declared.fault.TableFault.TheVariants as fault
use Rattle.judy_table.specs.declared.tenant.Tenant.{Tenant}
use Rattle.judy_programs.specs.Opening.{HasOpened, IsShut}
use Rattle.judy_programs.specs.Program.{HasRun, IsCutShort, words_line}
use Rattle.judy_programs.specs.declared.program.Ran.{Ran}
use Rattle.judy_programs.specs.declared.program.Ran.TheVariants as ran
use Rattle.judy_programs.specs.declared.socket.Hosted.TheVariants as hosted

module _ {S : Type 0} (made : Made S) (seen : S → Seen) (words_in : S → ℕ) (is_new : List Tenant → S → Type 0) where
  -- what holds of `run`, however it ended
  module _ (words : Bool) (batch : Batch) (how : Ran) (from to : Wire) (h : HasRun made seen words_in is_new words batch how from to) where
    pub run-reads : to.gave ≤ from.gave + 4295032837
    run-reads = h.reads

    pub run-limit : how ≡ ran.Served ends.Limit → to.gave < 18446744073709551615 → from.gave + 4294967296 ≤ to.gave
    run-limit = h.limit

    pub run-flushed : how ≢ ran.Write → how ≢ ran.Served ends.WriteFault → IsFlushed from.pending to.pending
    run-flushed = h.flushed

  -- the line with the words of all arrays was not written whole: a front of it was
  pub cut-words : (words : Bool) (batch : Batch) (left left' : MaybeBytes) (before after : S) (taken taken' : MaybeBytes) (told told' : ℕ)
      → IsCutShort made seen words_in words batch left left' before after taken taken' told told'
      → (between : MaybeBytes) × (part : List ℕ) × (missing : List ℕ) × (part ++ missing ≡ words_line (words_in after)) × Appends between taken' part
  cut-words words batch left left' before after taken taken' told told' h = (h.between, h.part, h.missing, h.cut, h.last)

  -- the file was read to its end, and is no longer than a table may be
  pub opened-whole : (left left' : MaybeBytes) (service : S) → HasOpened is_new left left' service
      → (text : List ℕ) × (tenants : List Tenant) × Consumes left left' text × IsAtEnd left' × (length text ≤ 65536)
      × (read_table text ≡ Ok tenants) × is_new tenants service
  opened-whole left left' service h = (h.text, h.tenants, h.read, h.end, h.short, h.reads, h.fresh)

module _ (left left' : MaybeBytes) where
  -- the file is longer than a table may be
  pub shut-long : IsShut hosted.Long left left' → (text : List ℕ) × Consumes left left' text × (65536 < length text)
  shut-long h = h

  -- a read failed, before the file was too long
  pub shut-config : IsShut hosted.Config left left' → (text : List ℕ) × Consumes left left' text × (length text ≤ 65536)
  shut-config h = h

  -- the whole file has this fault, if there was memory to read it
  pub shut-table : (f : TableFault) → f ≢ fault.Memory → IsShut (hosted.Table f) left left'
      → (text : List ℕ) × Consumes left left' text × IsAtEnd left' × (length text ≤ 65536) × (read_table text ≡ Err f)
  shut-table f other (text, whole, told) = (text, whole.0, whole.1, whole.2, by told)
    where
      by : (f ≡ fault.Memory) ⊎ (read_table text ≡ Err f) → read_table text ≡ Err f
      by (inl same) = absurd (other same)
      by (inr is) = is

  -- the whole file is a table without fault, and there was no memory for the service
  pub shut-memory : IsShut hosted.Memory left left'
      → (text : List ℕ) × Consumes left left' text × IsAtEnd left' × (length text ≤ 65536) × ((tenants : List Tenant) × (read_table text ≡ Ok tenants))
  shut-memory (text, whole, told) = (text, whole.0, whole.1, whole.2, told)
