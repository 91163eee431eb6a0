-- What may be sent later, or of fewer texts, if more may be sent first; and that answers are not
-- empty, and end with a line feed.
use Rattle.std.proofs.Common.{arith, ◌≡◌, ◌<◌, ◌≤◌, ℕ, Bool, List, [], ◌∷◌, ◌++◌, length, Option, Some, None, ap, sym, ◌∙◌, subst, refl, append_assoc, append-nil}
use Rattle.std.specs.Prelude.{codes}
use Rattle.std.proofs.lemmas.List.{length-append}
use Rattle.judy_stream.specs.Streams.{IsFlushed, SinkOf}
use Rattle.judy_model.specs.declared.replies.Reply.{Reply}
use Rattle.judy_model.specs.declared.requests.Line.TheVariants as request
use Rattle.judy_model.specs.Replies.{line, reply_words, text as text_of}
use Rattle.judy_model.specs.Speakers.{Speaker}
use Rattle.judy_model.specs.Stream.{Heard, Login, events_from, welcome, greeting, answer_from}
use Rattle.judy_model.specs.Stream.Heard.{TooLong, Unclear, Asked}
use Rattle.judy_protocol.specs.Services.{Made}
use Rattle.judy_protocol.specs.Serving.{AreOneText, answers_limit}
use Rattle.judy_protocol.specs.Talks.{Gathers}
use Rattle.judy_protocol.specs.Sending.{AreAnswers, MaySend}
use Rattle.judy_protocol.specs.declared.gathering.Batch.{Batch}
use Rattle.judy_protocol.specs.declared.gathering.Batch.TheVariants as batches
use Rattle.judy_protocol.specs.declared.held.Held.{Held}

-- the bytes end with a line feed
abbrev pub EndsLine : List ℕ → Type 0
EndsLine bytes = (text : List ℕ) × bytes ≡ text ++ 10 ∷ []

one_line : (text : List ℕ) → EndsLine (line text)
one_line text = (text, refl)

welcome_line : (who : Option Speaker) → EndsLine (welcome who)
welcome_line (Some speaker) = one_line (codes "OK")
welcome_line None = one_line (codes "ERR AUTH")

-- bytes in front of a line, and lines after it
further : (front next more : List ℕ) → EndsLine next → ((all : List ℕ) → EndsLine all → EndsLine (all ++ more)) → EndsLine (front ++ (next ++ more))
further front next more (text, e) go =
    let whole : front ++ next ≡ (front ++ text) ++ 10 ∷ [] = ap (λ v. front ++ v) e ∙ sym (append_assoc front text (10 ∷ [])) in
    subst EndsLine (append_assoc front next more) (go (front ++ next) (front ++ text, whole))

module _ (login : Login) where
  -- the answers to lines after bytes that end with a line feed
  then_lines : (who : Option Speaker) (lines : List Heard) (replies : List Reply) → length replies ≡ length (events_from login who lines)
      → (front : List ℕ) → EndsLine front → EndsLine (front ++ answer_from login who lines replies)
  then_lines who [] replies count front ends = subst EndsLine (sym (append-nil front)) ends
  then_lines who (TooLong ∷ rest) replies count front ends = further front (line (codes "ERR LONG")) _ (one_line (codes "ERR LONG")) (then_lines who rest replies count)
  then_lines who (Unclear ∷ rest) replies count front ends = further front (line (codes "ERR SYNTAX")) _ (one_line (codes "ERR SYNTAX")) (then_lines who rest replies count)
  then_lines who (Asked (request.Auth name token) ∷ rest) replies count front ends =
      further front (welcome (login name token)) _ (welcome_line (login name token)) (then_lines (login name token) rest replies count)
  then_lines who (Asked request.Quit ∷ rest) replies count front ends = further front (line (codes "BYE")) _ (one_line (codes "BYE")) (then_lines who rest replies count)
  then_lines who (Asked request.Ping ∷ rest) replies count front ends = further front (line (codes "OK")) _ (one_line (codes "OK")) (then_lines who rest replies count)
  then_lines who (Asked request.Hello ∷ rest) replies count front ends = further front (line greeting) _ (one_line greeting) (then_lines who rest replies count)
  then_lines None (Asked (request.Call call) ∷ rest) replies count front ends =
      further front (line (codes "ERR AUTH")) _ (one_line (codes "ERR AUTH")) (then_lines None rest replies count)
  then_lines (Some speaker) (Asked (request.Call call) ∷ rest) [] count front ends = absurd (omega (arith, count))
  then_lines (Some speaker) (Asked (request.Call call) ∷ rest) (reply ∷ replies) count front ends =
      further front (text_of reply) _ (one_line (reply_words reply)) (then_lines (Some speaker) rest replies (omega (arith, count)))

  -- the answers to a line and to lines after it
  lines_end : (who : Option Speaker) (lines : List Heard) (replies : List Reply) → length replies ≡ length (events_from login who lines)
      → 0 < length lines → EndsLine (answer_from login who lines replies)
  lines_end who [] replies count some = absurd (omega (arith, some))
  lines_end who (TooLong ∷ rest) replies count some = then_lines who rest replies count _ (one_line (codes "ERR LONG"))
  lines_end who (Unclear ∷ rest) replies count some = then_lines who rest replies count _ (one_line (codes "ERR SYNTAX"))
  lines_end who (Asked (request.Auth name token) ∷ rest) replies count some =
      then_lines (login name token) rest replies count _ (welcome_line (login name token))
  lines_end who (Asked request.Quit ∷ rest) replies count some = then_lines who rest replies count _ (one_line (codes "BYE"))
  lines_end who (Asked request.Ping ∷ rest) replies count some = then_lines who rest replies count _ (one_line (codes "OK"))
  lines_end who (Asked request.Hello ∷ rest) replies count some = then_lines who rest replies count _ (one_line greeting)
  lines_end None (Asked (request.Call call) ∷ rest) replies count some = then_lines None rest replies count _ (one_line (codes "ERR AUTH"))
  lines_end (Some speaker) (Asked (request.Call call) ∷ rest) [] count some = absurd (omega (arith, count))
  lines_end (Some speaker) (Asked (request.Call call) ∷ rest) (reply ∷ replies) count some =
      then_lines (Some speaker) rest replies (omega (arith, count)) _ (one_line (reply_words reply))

one_is_some : (n : ℕ) → n ≡ 1 → 0 < n
one_is_some n e = omega (arith, e)

-- a text answers at least one line
text_some : (batch : Batch) (lines : List Heard) → AreOneText batch lines → 0 < length lines
text_some batches.EachReply lines h = one_is_some (length lines) h
text_some batches.EachRead lines h = h

-- answers end with a line feed, so they have a byte
pub answers_line : {batch : Batch} (bytes : List ℕ) → AreAnswers batch bytes → EndsLine bytes
answers_line {batch} bytes are =
    let l = lines_end are.login are.who are.lines are.replies are.count (text_some batch are.lines are.one_text) in (l.0, are.is ∙ l.1)

pub answers_some : {batch : Batch} (bytes : List ℕ) → AreAnswers batch bytes → 0 < length bytes
answers_some bytes are = let l = answers_line bytes are in omega (arith, ap length l.1, length-append l.0 (10 ∷ []))

-- they are no more than the buffer holds
pub answers_short : {batch : Batch} (bytes : List ℕ) → AreAnswers batch bytes → length bytes ≤ 16384
answers_short bytes are = are.short

-- a list of one item
pub only : (lines : List Heard) → length lines ≡ 1 → (line : Heard) × (lines ≡ line ∷ [])
only [] one = absurd (omega (arith, one))
only (line ∷ []) one = (line, refl)
only (line ∷ next ∷ rest) one = absurd (omega (arith, one))

-- where each reply is written alone, they are the answer to exactly one line
pub answer_alone : (bytes : List ℕ) → AreAnswers batches.EachReply bytes
    → (login : Login) × (who : Option Speaker) × (line : Heard) × (replies : List Reply)
    × (bytes ≡ answer_from login who (line ∷ []) replies)
answer_alone bytes are =
    let (line, one) = only are.lines are.one_text in
    (are.login, are.who, line, are.replies, are.is ∙ ap (λ ls. answer_from are.login are.who ls are.replies) one)

-- what is left of answers also ends with a line feed
pub rest_ends : (front rest text : List ℕ) → front ++ rest ≡ text ++ 10 ∷ [] → 0 < length rest → EndsLine rest
rest_ends [] rest text e some = (text, e)
rest_ends (x ∷ xs) rest [] e some = absurd (omega (arith, some, ap length e, length-append xs rest))
rest_ends (x ∷ xs) rest (t ∷ ts) e some = let tails : xs ++ rest ≡ ts ++ 10 ∷ [] = cc in rest_ends xs rest ts tails some

-- the text that was gathered is the answers to its lines
pub gathered_answers : {S : Type 0} {batch : Batch} (made : Made S) (login : Login) (bytes : List ℕ) (quit : Bool) (held held' : Held) (who who' : Option Speaker)
    (before after : S) (text : List ℕ) → Gathers made login batch bytes quit held held' who who' before after text → length text ≤ answers_limit
    → AreAnswers batch text
gathered_answers made login bytes quit held held' who who' before after text g short = record {
  login = login;
  who = who;
  lines = g.lines;
  replies = g.turns.replies;
  one_text = g.one_text;
  count = g.turns.count;
  is = g.turns.text_is;
  short = short;  -- of the buffer
}

-- what may be sent from a state on may be sent from a later one in which no more bytes wait; the
-- same holds for fewer texts
pub MaySend-later : {W : Type 0} (sink : SinkOf W) (IsText IsOther : List ℕ → Type 0) (first later : W)
    → ((text : List ℕ) → IsOther text → IsText text) → IsFlushed (sink.pending first) (sink.pending later)
    → MaySend sink IsText first → MaySend sink IsOther later
MaySend-later sink IsText IsOther first later is flushed may = record {
  push = λ now rest some left. may.push now rest some (record {
    before = left.before;
    front = left.front;
    flushed = λ waits. flushed (left.flushed waits);
    text = is (left.front ++ rest) left.text;
    took = left.took;
  });
  flush = λ now left waits. may.flush now (record {
    before = left.before;
    front = left.front;
    flushed = λ waits. flushed (left.flushed waits);
    text = is (left.front ++ []) left.text;
    took = left.took;
  }) waits;
}
