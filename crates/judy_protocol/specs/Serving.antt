-- What the serving of a connection did.
--     Wire                         what a connection shows at one time
--     AreOneText batch lines       the answers to the lines are written as one text
--     AreRun lines replies ..      lines were run: each tenant's replies are those that it would
--                                  get alone
--     Ends batch end ..            what was read, run and written, by how the serving ended
--     IsFlushedBefore ..           what was flushed when a write failed
--     IsPrompt ..                  all lines that came so far have their answers
--     MayPull ..                   the source may be pulled once they have
--     Serves batch how most ..     the whole: what was run, and what the connection shows
use Rattle.std.specs.Prelude.{◌≡◌, ◌≢◌, ℕ, ◌+◌, ◌-◌, ◌^◌, ◌<◌, ◌≤◌, Bool, false, true, List, [], ◌++◌, map, zip, length, Option, None}
use Rattle.std.specs.List.{list_any}
use Rattle.std.specs.Io.KnownBytes.{Consumes, Appends, IsAtEnd, prepend_known}
use Rattle.judy_stream.specs.Streams.{IsFlushed, SinkOf, SourceOf, counted}
use Rattle.judy_model.specs.declared.replies.Reply.{Reply}
use Rattle.judy_model.specs.Service.{AreServed}
use Rattle.judy_model.specs.Worlds.{AreTheOnly}
use Rattle.judy_model.specs.Stream.{Heard, lines_of, rest_of, heard, is_quit, served, events_from, answer_from, answer}
use Rattle.judy_protocol.specs.Services.{Seen, Made, AreMade}
use Rattle.judy_protocol.specs.declared.gathering.Batch.{Batch}
use Rattle.judy_protocol.specs.declared.gathering.Batch.TheVariants as batches
use Rattle.judy_protocol.specs.declared.connection.End.{End}
use Rattle.judy_protocol.specs.declared.connection.End.TheVariants as ended

-- what the lines of a stream ask for
abbrev pub heard_in : List ℕ → List Heard
heard_in stream = map heard (lines_of stream)

-- whether one of them asks to quit
abbrev pub asks_to_quit : List Heard → Bool
asks_to_quit lines = list_any is_quit lines

-- bytes that may be known: those left in a source, or those that a sink has taken
abbrev pub MaybeBytes : Type 0
MaybeBytes = Option (List ℕ)

-- the most bytes of one read, and of the bytes that were read before
abbrev pub pull_limit : ℕ
pull_limit = 4096

-- the most bytes of the answers that are written as one text
abbrev pub answers_limit : ℕ
answers_limit = 16384

-- The answers to these lines are written as one text: exactly one line, or at least one.
abbrev pub AreOneText : Batch → List Heard → Type 0
AreOneText batches.EachReply lines = length lines ≡ 1
AreOneText batches.EachRead lines = 0 < length lines

-- the most reads of one connection that give bytes
abbrev pub reads_limit : ℕ
reads_limit = 2 ^ 32

-- what a connection shows at one time
pub record Wire : Type 0 where
  -- the bytes that are left in its source, where they are known
  pub left : MaybeBytes
  -- how many reads gave bytes, reported the end, and failed
  pub gave : ℕ
  pub ends : ℕ
  pub read_faults : ℕ
  -- the bytes that its sink took, where they are known, and whether some of them wait for a flush
  pub taken : MaybeBytes
  pub pending : Bool
  -- how many writes and flushes failed
  pub write_faults : ℕ

-- what a source r and a sink w show
abbrev pub wire : {R W : Type 0} → SourceOf R → SinkOf W → R → W → Wire
wire source sink r w = record {
  left = source.left r;
  gave = source.gave r;
  ends = source.ends r;
  read_faults = source.faults r;
  taken = sink.taken w;
  pending = sink.pending w;
  write_faults = sink.faults w;
}

-- the same connection before these bytes of its source were read
abbrev pub with_first : List ℕ → Wire → Wire
with_first bytes w = record w { left = prepend_known bytes w.left }

-- the counts of ends, of failed reads and of failed writes, by how the serving ended: each cause
-- counts once, and nothing else does
abbrev pub ends_by : End → ℕ → ℕ
ends_by ended.Quit count = count
ends_by ended.End count = counted count
ends_by ended.ReadFault count = count
ends_by ended.WriteFault count = count
ends_by ended.Limit count = count

abbrev pub read_faults_by : End → ℕ → ℕ
read_faults_by ended.Quit count = count
read_faults_by ended.End count = count
read_faults_by ended.ReadFault count = counted count
read_faults_by ended.WriteFault count = count
read_faults_by ended.Limit count = count

abbrev pub write_faults_by : End → ℕ → ℕ
write_faults_by ended.Quit count = count
write_faults_by ended.End count = count
write_faults_by ended.ReadFault count = count
write_faults_by ended.WriteFault count = counted count
write_faults_by ended.Limit count = count

module _ {S : Type 0} (made : Made S) (seen : S → Seen) where
  -- The lines were run, and these are the replies, one to each call. Each tenant's replies are
  -- those that it would get alone, without the calls that were refused for memory. Another server
  -- that agrees on a tenant's quota, arrays, calls and refusals would give it the same replies,
  -- whatever else that server holds and does. The service made exactly these calls, one after
  -- another, and kept its quotas and tokens.
  pub record AreRun (lines : List Heard) (replies : List Reply) (before after : S) : Type 0 where
    pub served : let events = events_from (seen before).logins None lines in
        AreServed (seen before).quotas (seen before).states events replies (seen after).states
    pub worlds : let events = events_from (seen before).logins None lines in
        AreTheOnly (seen before).quotas (seen before).states (zip events replies) (seen after).states
    pub calls : AreMade made before (zip (events_from (seen before).logins None lines) replies) after
    pub quotas : (seen after).quotas ≡ (seen before).quotas
    pub logins : (seen after).logins ≡ (seen before).logins
    pub speakers : (seen after).speakers ≡ (seen before).speakers
    pub names : (seen after).names ≡ (seen before).names

  -- The lines that the source gave were run, up to the first that asks to quit, and their answers
  -- were written. Nothing else was written.
  pub record AllRun (script : List ℕ) (left left' : MaybeBytes) (before after : S) (taken taken' : MaybeBytes) : Type 0 where
    pub replies : List Reply
    pub read : Consumes left left' script
    pub run : AreRun (served script) replies before after
    pub written : Appends taken taken' (answer (seen before).logins script replies)

  -- the same, and no line asked to quit
  pub record AllOpen (left left' : MaybeBytes) (before after : S) (taken taken' : MaybeBytes) : Type 0 where
    pub script : List ℕ
    pub run : AllRun script left left' before after taken taken'
    pub goes_on : asks_to_quit (heard_in script) ≡ false

  -- The same, and a line asked to quit. It was the last that was run, and fewer than 4,096 bytes
  -- were given after it.
  pub record AllQuit (left left' : MaybeBytes) (before after : S) (taken taken' : MaybeBytes) : Type 0 where
    pub ran : List ℕ
    pub unheard : List ℕ
    pub run : AllRun (ran ++ unheard) left left' before after taken taken'
    pub ended : rest_of ran ≡ []  -- whole lines up to QUIT
    pub last : served (ran ++ unheard) ≡ heard_in ran
    pub quits : asks_to_quit (heard_in ran) ≡ true
    pub few : length unheard < pull_limit  -- of the read that gave QUIT

  -- The lines that the source gave were run, up to a text of answers whose write or flush failed. The
  -- answers to the lines in `kept` were sent whole. The lines that `cut` completes (`lines`) were run
  -- too, and a part of their answers was sent, which are one text: with `EachReply` there is exactly
  -- one of these lines. `cut` and the bytes after it are of one read. No line was run after one that
  -- asks to quit.
  pub record PartRun (batch : Batch) (left left' : MaybeBytes) (before after : S) (taken taken' : MaybeBytes) : Type 0 where
    pub kept : List ℕ
    pub cut : List ℕ
    pub unheard : List ℕ
    pub lines : List Heard
    pub replies : List Reply
    pub sent : List ℕ
    pub begun : List ℕ
    pub missing : List ℕ
    pub read : Consumes left left' ((kept ++ cut) ++ unheard)
    pub once : length (cut ++ unheard) ≤ pull_limit  -- the lines of the last text
    pub few : length unheard < pull_limit  -- of the last read
    pub ended : rest_of (kept ++ cut) ≡ []  -- whole lines up to the failed write
    pub completes : heard_in (kept ++ cut) ≡ heard_in kept ++ lines
    pub one_text : AreOneText batch lines  -- those of the last text
    pub goes_on : asks_to_quit (heard_in kept) ≡ false
    pub last : served (kept ++ cut) ≡ heard_in (kept ++ cut)  -- none after QUIT
    pub run : AreRun (heard_in (kept ++ cut)) replies before after
    pub written : Appends taken taken' sent
    pub whole : sent ≡ answer_from (seen before).logins None (heard_in kept) replies ++ begun
    pub part : sent ++ missing ≡ answer_from (seen before).logins None (heard_in (kept ++ cut)) replies
    pub text : length (begun ++ missing) ≤ answers_limit  -- the last text

  -- what the serving did, by how it ended
  abbrev pub Ends : Batch → End → MaybeBytes → MaybeBytes → S → S → MaybeBytes → MaybeBytes → Type 0
  Ends batch ended.Quit left left' before after taken taken' = AllQuit left left' before after taken taken'
  Ends batch ended.End left left' before after taken taken' = AllOpen left left' before after taken taken'
  Ends batch ended.ReadFault left left' before after taken taken' = AllOpen left left' before after taken taken'
  Ends batch ended.Limit left left' before after taken taken' = AllOpen left left' before after taken taken'
  Ends batch ended.WriteFault left left' before after taken taken' = PartRun batch left left' before after taken taken'

  -- After a failed write: if nothing of the last text was sent, the texts before it were flushed.
  abbrev pub IsFlushedBefore : (batch : Batch) (how : End) (left left' : MaybeBytes) (before after : S) (taken taken' : MaybeBytes)
      → Ends batch how left left' before after taken taken' → Bool → Bool → Type 0
  IsFlushedBefore batch ended.Quit left left' before after taken taken' run pending pending' = Unit {0}
  IsFlushedBefore batch ended.End left left' before after taken taken' run pending pending' = Unit {0}
  IsFlushedBefore batch ended.ReadFault left left' before after taken taken' run pending pending' = Unit {0}
  IsFlushedBefore batch ended.Limit left left' before after taken taken' run pending pending' = Unit {0}
  IsFlushedBefore batch ended.WriteFault left left' before after taken taken' part pending pending' =
      part.begun ≡ [] → IsFlushed pending pending'

  -- All lines that the source gave so far were run, and none asked to quit. Their answers were
  -- written and flushed. Now the source may be pulled.
  pub record IsPrompt (left left' : MaybeBytes) (before : S) (taken taken' : MaybeBytes) (pending pending' : Bool) : Type 0 where
    pub after : S
    pub run : AllOpen left left' before after taken taken'
    pub flushed : IsFlushed pending pending'

  -- A connection is to be served, from this state of the service on. Its source may be pulled, into
  -- at most 4,096 bytes, once all lines that it gave so far have their answers, written and flushed,
  -- and none of them asked to quit.
  abbrev pub MayPull : {R W : Type 0} → SourceOf R → SinkOf W → S → Wire → Type 0
  MayPull {R} {W} source sink before from = (r : R) (w : W) (room : ℕ) → room ≤ pull_limit
      → IsPrompt from.left (source.left r) before from.taken (sink.taken w) from.pending (sink.pending w)
      → source.can_pull r room

  -- A connection was served, starting without a speaker, and this is how it ended. At most `most`
  -- reads gave bytes.
  pub record Serves (batch : Batch) (how : End) (most : ℕ) (before after : S) (from to : Wire) : Type 0 where
    -- the lines that came were run, and their answers were written
    pub served : Ends batch how from.left to.left before after from.taken to.taken
    -- at `End` nothing is left of a source that reports its bytes
    pub end : how ≡ ended.End → IsAtEnd to.left
    -- nothing more waits for a flush, unless a write failed
    pub flushed : how ≢ ended.WriteFault → IsFlushed from.pending to.pending
    pub flushed_before : IsFlushedBefore batch how from.left to.left before after from.taken to.taken served from.pending to.pending
    -- each end and each fault is counted once, and nothing else is
    pub ends : to.ends ≡ ends_by how from.ends
    pub read_faults : to.read_faults ≡ read_faults_by how from.read_faults
    pub write_faults : to.write_faults ≡ write_faults_by how from.write_faults
    -- `Limit` comes only after `most` reads that gave bytes, and there are never more
    pub limit : how ≡ ended.Limit → to.gave < 2 ^ 64 - 1 → to.gave ≡ from.gave + most
    pub reads : to.gave ≤ from.gave + most
