-- What may be pushed to a sink, and when it may be flushed: one text at a time, which is the answer to
-- one line, or with `EachRead` the answers to lines that follow one another, after a push the rest of
-- it, and one flush after its last byte.
use Rattle.std.specs.Prelude.{◌≡◌, ◌<◌, ◌≤◌, ℕ, true, List, [], ◌++◌, length, Option}
use Rattle.std.specs.Io.KnownBytes.{Appends}
use Rattle.judy_stream.specs.Streams.{IsFlushed, SinkOf}
use Rattle.judy_model.specs.declared.replies.Reply.{Reply}
use Rattle.judy_model.specs.Speakers.{Speaker}
use Rattle.judy_model.specs.Stream.{Heard, Login, events_from, answer_from}
use Rattle.judy_protocol.specs.Serving.{AreOneText, answers_limit}
use Rattle.judy_protocol.specs.declared.gathering.Batch.{Batch}

-- The bytes are the answers to the lines of one text, one after another: with `EachReply` the answer to
-- exactly one line, otherwise to one line or more. They are at most 16,384.
pub record AreAnswers (batch : Batch) (bytes : List ℕ) : Type 0 where
  pub login : Login
  pub who : Option Speaker
  pub lines : List Heard
  pub replies : List Reply
  pub one_text : AreOneText batch lines
  pub count : length replies ≡ length (events_from login who lines)
  pub is : bytes ≡ answer_from login who lines replies
  pub short : length bytes ≤ answers_limit

module _ {W : Type 0} (sink : SinkOf W) (IsText : List ℕ → Type 0) (first : W) where
  -- From the state `before` on, the sink took the front of one text, and `rest` is what is left. In
  -- `before` no bytes waited for a flush, unless some did at first.
  pub record IsLeft (rest : List ℕ) (now : W) : Type 0 where
    pub before : W
    pub front : List ℕ
    pub flushed : IsFlushed (sink.pending first) (sink.pending before)
    pub text : IsText (front ++ rest)
    pub took : Appends (sink.taken before) (sink.taken now) front

  -- The rest of a text may be pushed, all at once. If nothing is left and bytes wait, the sink may
  -- be flushed.
  pub record MaySend : Type 0 where
    pub push : (now : W) (rest : List ℕ) → 0 < length rest → IsLeft rest now → sink.can_push now rest
    pub flush : (now : W) → IsLeft [] now → sink.pending now ≡ true → sink.can_flush now
