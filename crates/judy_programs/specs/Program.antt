-- What `judyd run` does with its input, for any kind S of service: the step of a call (`made`), the
-- visible state (`seen`), the words of its arrays (`words_in`), and when the service is new
-- (`is_new`).
--     RunsOn words batch ran ..       a script was served, and then the line with the words, if
--                                     wanted
--     HasRunOn words batch how ..     the same, and what the streams show then
--     Runs words batch ran ..         a table was read, and the script after it was served to its
--                                     tenants
--     HasRun words batch how ..       the same, and what the streams show then
--     ServesSoFar ..                  all lines that came so far are answered, and none asked to
--                                     quit
--     MayPullScript ..                the source may be pulled while that is so
use Rattle.std.specs.Prelude.{◌≡◌, ◌≢◌, ◌⊎◌, ◌+◌, ◌-◌, ◌^◌, ◌<◌, ◌≤◌, ℕ, Bool, true, false, List, [], ◌++◌, length, codes, decimal, Ok, Err, if◌then◌else◌}
use Rattle.std.specs.Io.KnownBytes.{Appends, Consumes, IsAtEnd, prepend_known}
use Rattle.judy_model.specs.Replies.{line}
use Rattle.judy_stream.specs.Streams.{IsFlushed, SinkOf, SourceOf, counted}
use Rattle.judy_protocol.specs.Services.{Made, Seen}
use Rattle.judy_protocol.specs.Sending.{AreAnswers}
use Rattle.judy_protocol.specs.Serving.{MaybeBytes, Ends, IsPrompt, Wire, ends_by, pull_limit, read_faults_by, reads_limit, write_faults_by}
use Rattle.judy_protocol.specs.declared.gathering.Batch.{Batch}
use Rattle.judy_protocol.specs.declared.connection.End.{End}
use Rattle.judy_protocol.specs.declared.connection.End.TheVariants as ends
use Rattle.judy_table.specs.Tenants.{read_table}
use Rattle.judy_table.specs.declared.fault.TableFault.{TableFault}
use Rattle.judy_table.specs.declared.fault.TableFault.TheVariants as fault
use Rattle.judy_table.specs.declared.tenant.Tenant.{Tenant}
use Rattle.judy_programs.specs.Tables.{IsLong, IsOpen, IsTable, table_limit}
use Rattle.judy_programs.specs.declared.program.Ran.{Ran}
use Rattle.judy_programs.specs.declared.program.Ran.TheVariants as ran

-- ---- the last line

-- the line that reports how many words the arrays hold
abbrev pub words_line : ℕ → List ℕ
words_line n = line (codes "WORDS " ++ decimal n)

-- what `judyd run` sends at once: answers, or the line with the words
abbrev pub IsSent : Batch → List ℕ → Type 0
IsSent batch text = AreAnswers batch text ⊎ ((n : ℕ) × text ≡ words_line n)

-- whether the line with the words is written: if it is wanted, after a script that was served to
-- its end
abbrev pub tells_words : Bool → End → Bool
tells_words false end = false
tells_words true ends.Quit = true
tells_words true ends.End = true
tells_words true ends.ReadFault = false
tells_words true ends.WriteFault = false
tells_words true ends.Limit = false

-- what follows the answers
abbrev pub last_line : Bool → End → ℕ → List ℕ
last_line words end n = if tells_words words end then words_line n else []

-- ---- the table

-- the source gave a table, and the beginning of the script that follows it
pub record GaveTable (left mid : MaybeBytes) (text script : List ℕ) : Type 0 where
  pub given : List ℕ
  pub read : Consumes left mid given
  pub table : IsTable given text script
  pub short : length text ≤ table_limit

-- the table has this fault, or there was no memory to read it
pub record HasFault (f : TableFault) (left left' : MaybeBytes) : Type 0 where
  pub text : List ℕ
  pub script : List ℕ
  pub gave : GaveTable left left' text script
  pub why : (f ≡ fault.Memory) ⊎ (read_table text ≡ Err f)

-- the table has no fault
pub record HasNoFault (left left' : MaybeBytes) : Type 0 where
  pub text : List ℕ
  pub script : List ℕ
  pub tenants : List Tenant
  pub gave : GaveTable left left' text script
  pub reads : read_table text ≡ Ok tenants

-- the program refused its input, and served nothing
abbrev pub is_refused : Ran → Bool
is_refused (ran.Served end) = false
is_refused (ran.Table f) = true
is_refused ran.Cut = true
is_refused ran.Long = true
is_refused ran.Memory = true
is_refused ran.Read = true
is_refused ran.Write = false

-- the counts of failed reads and of failed writes, by how the program ended: each cause counts
-- once, and nothing else does
abbrev pub read_faults_of : Ran → ℕ → ℕ
read_faults_of (ran.Served end) count = read_faults_by end count
read_faults_of (ran.Table f) count = count
read_faults_of ran.Cut count = count
read_faults_of ran.Long count = count
read_faults_of ran.Memory count = count
read_faults_of ran.Read count = counted count
read_faults_of ran.Write count = count

abbrev pub write_faults_of : Ran → ℕ → ℕ
write_faults_of (ran.Served end) count = write_faults_by end count
write_faults_of (ran.Table f) count = count
write_faults_of ran.Cut count = count
write_faults_of ran.Long count = count
write_faults_of ran.Memory count = count
write_faults_of ran.Read count = count
write_faults_of ran.Write count = counted count

module _ {S : Type 0} (made : Made S) (seen : S → Seen) (words_in : S → ℕ) where
  -- ---- the script

  -- the script was served; at its end nothing is left of the source, and the source reported its
  -- end once
  pub record IsEnded (batch : Batch) (end : End) (left left' : MaybeBytes) (before after : S) (taken taken' : MaybeBytes) (told told' : ℕ) : Type 0 where
    pub served : Ends made seen batch end left left' before after taken taken'
    pub none : end ≡ ends.End → IsAtEnd left'
    pub count : told' ≡ ends_by end told

  -- the script was served, and what follows the answers was written
  pub record IsServedOut (words : Bool) (batch : Batch) (end : End) (left left' : MaybeBytes) (before after : S) (taken taken' : MaybeBytes) (told told' : ℕ) : Type 0 where
    pub between : MaybeBytes
    pub script : IsEnded batch end left left' before after taken between told told'
    pub last : Appends between taken' (last_line words end (words_in after))

  -- the script was served to its end, and only a part of the line that follows the answers was
  -- written
  pub record IsCutShort (words : Bool) (batch : Batch) (left left' : MaybeBytes) (before after : S) (taken taken' : MaybeBytes) (told told' : ℕ) : Type 0 where
    pub end : End
    pub between : MaybeBytes
    pub part : List ℕ
    pub missing : List ℕ
    pub tells : tells_words words end ≡ true
    pub script : IsEnded batch end left left' before after taken between told told'
    pub cut : part ++ missing ≡ words_line (words_in after)
    pub last : Appends between taken' part

  -- the result for a script
  abbrev pub RunsOn : Bool → Batch → Ran → MaybeBytes → MaybeBytes → S → S → MaybeBytes → MaybeBytes → ℕ → ℕ → Type 0
  RunsOn words batch (ran.Served end) left left' before after taken taken' told told' = IsServedOut words batch end left left' before after taken taken' told told'
  RunsOn words batch ran.Write left left' before after taken taken' told told' = IsCutShort words batch left left' before after taken taken' told told'
  RunsOn words batch (ran.Table f) left left' before after taken taken' told told' = ⊥
  RunsOn words batch ran.Cut left left' before after taken taken' told told' = ⊥
  RunsOn words batch ran.Long left left' before after taken taken' told told' = ⊥
  RunsOn words batch ran.Memory left left' before after taken taken' told told' = ⊥
  RunsOn words batch ran.Read left left' before after taken taken' told told' = ⊥

  -- A script was served, and this is how that ended. `from` and `to` are what the streams showed
  -- before and after.
  pub record HasRunOn (words : Bool) (batch : Batch) (how : Ran) (before after : S) (from to : Wire) : Type 0 where
    -- what was read, run and written
    pub runs : RunsOn words batch how from.left to.left before after from.taken to.taken from.ends to.ends
    -- nothing more waits for a flush, unless a write failed
    pub flushed : how ≢ ran.Write → how ≢ ran.Served ends.WriteFault → IsFlushed from.pending to.pending
    -- each fault is counted once, and nothing else is
    pub read_faults : to.read_faults ≡ read_faults_of how from.read_faults
    pub write_faults : to.write_faults ≡ write_faults_of how from.write_faults
    -- `Limit` comes only after this many reads that gave bytes, and there are never more
    pub limit : how ≡ ran.Served ends.Limit → to.gave < 2 ^ 64 - 1 → to.gave ≡ from.gave + reads_limit
    pub reads : to.gave ≤ from.gave + reads_limit

  -- ---- the whole input

  module _ (is_new : List Tenant → S → Type 0) where
    -- a table was read, its tenants got a new service, and the script that follows was served to
    -- them
    pub record HasServed (words : Bool) (batch : Batch) (ran : Ran) (left left' taken taken' : MaybeBytes) (told told' : ℕ) : Type 0 where
      pub mid : MaybeBytes
      pub text : List ℕ
      pub script : List ℕ
      pub tenants : List Tenant
      pub before : S
      pub after : S
      pub gave : GaveTable left mid text script
      pub reads : read_table text ≡ Ok tenants  -- the table's tenants
      pub fresh : is_new tenants before
      pub run : RunsOn words batch ran (prepend_known script mid) left' before after taken taken' told told'

    -- the result for the input, by how the program ended
    abbrev pub Runs : Bool → Batch → Ran → MaybeBytes → MaybeBytes → MaybeBytes → MaybeBytes → ℕ → ℕ → Type 0
    Runs words batch (ran.Served end) left left' taken taken' told told' = HasServed words batch (ran.Served end) left left' taken taken' told told'
    Runs words batch ran.Write left left' taken taken' told told' = HasServed words batch ran.Write left left' taken taken' told told'
    Runs words batch (ran.Table f) left left' taken taken' told told' = HasFault f left left' × (told' ≡ told)
    Runs words batch ran.Memory left left' taken taken' told told' = HasNoFault left left' × (told' ≡ told)
    Runs words batch ran.Long left left' taken taken' told told' = (given : List ℕ) × Consumes left left' given × IsLong given × (told' ≡ told)
    Runs words batch ran.Read left left' taken taken' told told' = (given : List ℕ) × Consumes left left' given × IsOpen given × (told' ≡ told)
    Runs words batch ran.Cut left left' taken taken' told told' =
        (given : List ℕ) × Consumes left left' given × IsOpen given × IsAtEnd left' × (told' ≡ counted told)

    -- The input was read, and this is how the program ended. `from` and `to` are what the streams
    -- showed before and after.
    pub record HasRun (words : Bool) (batch : Batch) (how : Ran) (from to : Wire) : Type 0 where
      -- what was read, run and written
      pub runs : Runs words batch how from.left to.left from.taken to.taken from.ends to.ends
      -- nothing more waits for a flush, unless a write failed
      pub flushed : how ≢ ran.Write → how ≢ ran.Served ends.WriteFault → IsFlushed from.pending to.pending  -- at the end
      -- each fault is counted once, and nothing else is
      pub read_faults : to.read_faults ≡ read_faults_of how from.read_faults
      pub write_faults : to.write_faults ≡ write_faults_of how from.write_faults
      -- `Limit` comes only after this many reads of the script that gave bytes; there are never
      -- more, and at most one for each byte of the longest table and its end
      pub limit : how ≡ ran.Served ends.Limit → to.gave < 2 ^ 64 - 1 → from.gave + reads_limit ≤ to.gave
      pub reads : to.gave ≤ from.gave + (reads_limit + 65541)

    -- A table was read, and all lines of the script that came so far were run for its tenants.
    -- Their answers were written and flushed, and none of the lines asked to quit. Now the source
    -- may be pulled.
    pub record ServesSoFar (left left' taken taken' : MaybeBytes) (pending pending' : Bool) : Type 0 where
      pub mid : MaybeBytes
      pub text : List ℕ
      pub script : List ℕ
      pub tenants : List Tenant
      pub before : S
      pub gave : GaveTable left mid text script
      pub reads : read_table text ≡ Ok tenants
      pub fresh : is_new tenants before
      pub prompt : IsPrompt made seen (prepend_known script mid) left' before taken taken' pending pending'

    -- After the table the source may be pulled, into at most 4,096 bytes, once all lines of the script
    -- that it gave so far have their answers, written and flushed, and none of them asked to quit.
    -- `from` is what the streams showed before the table was read.
    abbrev pub MayPullScript : {R W : Type 0} → SourceOf R → SinkOf W → Wire → Type 0
    MayPullScript {R} {W} source sink from = (r : R) (w : W) (room : ℕ) → room ≤ pull_limit
        → ServesSoFar from.left (source.left r) from.taken (sink.taken w) from.pending (sink.pending w)
        → source.can_pull r room
