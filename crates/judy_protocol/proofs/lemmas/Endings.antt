-- What the end of a connection means, in the words of docs/PROMISES.md.
--     quit-means     after `QUIT` no further byte has an effect
--     fault-means    at a failed write the front of the answers was sent, up to within the last text
--     reply-means    where each reply is written alone, up to within the answer to the last line that was
--                    run
--     fault-flushed  if nothing of the last text was sent, the texts before it were flushed
--     open-means     at any other end all lines that came were answered, and none asked to quit
use Rattle.std.specs.Prelude.{◌≡◌, ℕ, ◌<◌, ◌≤◌, true, false, List, [], ◌∷◌, ◌++◌, length, None}
use Rattle.std.specs.Io.KnownBytes.{Consumes, Appends}
use Rattle.std.proofs.Common.{◌∙◌, ap, subst}
use Rattle.judy_model.specs.declared.replies.Reply.{Reply}
use Rattle.judy_model.specs.Stream.{Heard, rest_of, served, answer_from, answer}
use Rattle.judy_protocol.specs.Services.{Made, Seen}
use Rattle.judy_stream.specs.Streams.{IsFlushed}
use Rattle.judy_protocol.specs.Serving.{AreOneText, MaybeBytes, AreRun, AllQuit, AllOpen, PartRun, Serves, Wire, asks_to_quit, heard_in}
use Rattle.judy_protocol.specs.declared.connection.End.TheVariants as ended
use Rattle.judy_protocol.specs.declared.gathering.Batch.{Batch}
use Rattle.judy_protocol.specs.declared.gathering.Batch.TheVariants as batches
use Rattle.judy_protocol.proofs.lemmas.SendingLaws.{only}

module _ {S : Type 0} (made : Made S) (seen : S → Seen) (left left' : MaybeBytes) (before after : S) (taken taken' : MaybeBytes) where
  -- Of the bytes that were given, those up to the line feed of `QUIT` were run and answered. One of
  -- their lines asked to quit. Fewer than 4,096 bytes came after them, and had no effect.
  pub quit-means : AllQuit made seen left left' before after taken taken'
      → (ran : List ℕ) × (unheard : List ℕ) × (replies : List Reply) × Consumes left left' (ran ++ unheard) × (rest_of ran ≡ [])
      × (length unheard < 4096) × (asks_to_quit (heard_in ran) ≡ true) × AreRun made seen (heard_in ran) replies before after
      × Appends taken taken' (answer_from (seen before).logins None (heard_in ran) replies)
  quit-means q = (
    q.ran,
    q.unheard,
    q.run.replies,
    q.run.read,
    q.ended,
    q.few,
    q.quits,
    subst (λ lines. AreRun made seen lines q.run.replies before after) q.last q.run.run,
    subst (λ lines. Appends taken taken' (answer_from (seen before).logins None lines q.run.replies)) q.last q.run.written,
  )

  -- A write or a flush failed. The lines up to the last one that was run end with a line feed, fewer
  -- than 4,096 bytes came after them, and none but the last of them may have asked to quit. What was
  -- sent is a front of their answers. The lines whose answers were not sent whole were completed by the
  -- last bytes that came, at most 4,096. There is at least one of them, with `EachReply` exactly one, and
  -- their answers have at most 16,384 bytes.
  pub fault-means : (batch : Batch) → PartRun made seen batch left left' before after taken taken'
      → (kept : List ℕ) × (cut : List ℕ) × (unheard : List ℕ) × (lines : List Heard)
      × (replies : List Reply) × (sent : List ℕ) × (begun : List ℕ) × (missing : List ℕ)
      × Consumes left left' ((kept ++ cut) ++ unheard) × (length (cut ++ unheard) ≤ 4096) × (length unheard < 4096)
      × (rest_of (kept ++ cut) ≡ []) × (heard_in (kept ++ cut) ≡ heard_in kept ++ lines) × AreOneText batch lines
      × (asks_to_quit (heard_in kept) ≡ false) × (served (kept ++ cut) ≡ heard_in (kept ++ cut))
      × AreRun made seen (heard_in (kept ++ cut)) replies before after × Appends taken taken' sent
      × (sent ≡ answer_from (seen before).logins None (heard_in kept) replies ++ begun)
      × (sent ++ missing ≡ answer_from (seen before).logins None (heard_in (kept ++ cut)) replies)
      × (length (begun ++ missing) ≤ 16384)
  fault-means batch p = (
    p.kept,
    p.cut,
    p.unheard,
    p.lines,
    p.replies,
    p.sent,
    p.begun,
    p.missing,
    p.read,
    p.once,
    p.few,
    p.ended,
    p.completes,
    p.one_text,
    p.goes_on,
    p.last,
    p.run,
    p.written,
    p.whole,
    p.part,
    p.text,
  )

  -- A write or a flush failed where each reply is written alone. The lines in `first` and the line `last`
  -- were run, and no later one. What was sent is a front of their answers, and the answers to the lines
  -- in `first` are a front of it.
  pub reply-means : PartRun made seen batches.EachReply left left' before after taken taken'
      → (first : List Heard) × (last : Heard) × (replies : List Reply) × (sent : List ℕ) × (begun : List ℕ) × (missing : List ℕ)
      × AreRun made seen (first ++ last ∷ []) replies before after × Appends taken taken' sent
      × (sent ≡ answer_from (seen before).logins None first replies ++ begun)
      × (sent ++ missing ≡ answer_from (seen before).logins None (first ++ last ∷ []) replies)
  reply-means p =
      let (last, one) = only p.lines p.one_text in
      let are : heard_in (p.kept ++ p.cut) ≡ heard_in p.kept ++ last ∷ [] = p.completes ∙ ap (λ ls. heard_in p.kept ++ ls) one in (
        heard_in p.kept,
        last,
        p.replies,
        p.sent,
        p.begun,
        p.missing,
        subst (λ ls. AreRun made seen ls p.replies before after) are p.run,
        p.written,
        p.whole,
        p.part ∙ ap (λ ls. answer_from (seen before).logins None ls p.replies) are,
      )

  -- All lines that came were run and answered, and none asked to quit.
  pub open-means : AllOpen made seen left left' before after taken taken'
      → (script : List ℕ) × (replies : List Reply) × Consumes left left' script × (asks_to_quit (heard_in script) ≡ false)
      × AreRun made seen (served script) replies before after × Appends taken taken' (answer (seen before).logins script replies)
  open-means o = (o.script, o.run.replies, o.run.read, o.goes_on, o.run.run, o.run.written)

-- If no byte of the text whose write or flush failed was sent, no more bytes wait for a flush than
-- before: the texts before it were flushed.
pub fault-flushed : {S : Type 0} (made : Made S) (seen : S → Seen) (batch : Batch) (most : ℕ) (before after : S) (from to : Wire)
    → (h : Serves made seen batch ended.WriteFault most before after from to) → h.served.begun ≡ [] → IsFlushed from.pending to.pending
fault-flushed made seen batch most before after from to h = h.flushed_before
