use Rattle.std.proofs.Common.{◌≡◌, ℕ, inl, inr, Bool, true, false, ap, refl, sym, ◌∙◌}
use Rattle.judy_stream.specs.Streams.{counted, flush_faults_after}
use Rattle.judy_protocol.specs.Sending.{AreAnswers}
use Rattle.judy_protocol.specs.Serving.{read_faults_by, write_faults_by}
use Rattle.judy_protocol.specs.declared.connection.End.{End}
use Rattle.judy_protocol.specs.declared.connection.End.TheVariants as ends
use Rattle.judy_protocol.proofs.lemmas.SendingLaws.{MaySend-later}
use Rattle.judy_programs.specs.Program.{IsSent, tells_words, words_line}
use Rattle.judy_programs.proofs.program.run_on.Goals as goal

-- the last line follows a script whose answers were all written
told_well : (words : Bool) (end : End) → tells_words words end ≡ true → end ≡ ends.WriteFault → ⊥
told_well true ends.Quit e w = cc
told_well true ends.End e w = cc
told_well true ends.ReadFault e w = cc
told_well true ends.WriteFault e w = cc
told_well true ends.Limit e w = cc
told_well false end e w = cc

-- and no read or write failed before it
told_reads : (words : Bool) (end : End) (count : ℕ) → tells_words words end ≡ true → read_faults_by end count ≡ count
told_reads true ends.Quit count e = refl
told_reads true ends.End count e = refl
told_reads true ends.ReadFault count e = cc
told_reads true ends.WriteFault count e = refl
told_reads true ends.Limit count e = refl
told_reads false end count e = cc

told_writes : (words : Bool) (end : End) (count : ℕ) → tells_words words end ≡ true → write_faults_by end count ≡ count
told_writes true ends.Quit count e = refl
told_writes true ends.End count e = refl
told_writes true ends.ReadFault count e = refl
told_writes true ends.WriteFault count e = cc
told_writes true ends.Limit count e = refl
told_writes false end count e = cc

pub serve_after-end-requires-clause-answers : goal.serve_after-end-requires-clause-answers
serve_after-end-requires-clause-answers g c =
    MaySend-later _ (IsSent c.args.batch) (AreAnswers c.args.batch) c.args.w.now c.args.w.now (λ text is. inl is)
    (λ waits. waits) c.requires.answers

pub send-requires-clause-answers : goal.send-requires-clause-answers
send-requires-clause-answers g c =
    MaySend-later _ (IsSent c.args.batch) _ c.args.w.now c.serve_after-end.new.sink
    (λ text e. inr (c.live_words-n.result, e ∙ c.as_slice.ensures.value ∙ c.words_text-line.ensures))
    (c.serve_after-end.ensures.flushed (told_well c.args.words c.serve_after-end.result (sym c.tells_words.ensures ∙ c.if-not-tells_words.false)))
    c.requires.answers

-- the last line was not written whole
pub returns : goal.returns
returns g c =
    let served = c.serve_after-end.ensures in
    let part = c.send.ensures.part c.if-send.false in
    let tells = sym c.tells_words.ensures ∙ c.if-not-tells_words.false in
    record {
      runs = record {
        end = c.serve_after-end.result;
        between = g.W.Sink.sink.taken c.serve_after-end.new.sink;
        part = part.0;
        missing = part.1;
        tells = tells;
        script = record { served = served.served; none = served.end; count = served.ends };
        cut = part.2 ∙ c.as_slice.ensures.value ∙ c.words_text-line.ensures ∙ ap words_line c.live_words-n.ensures;
        last = part.3;
      };
      flushed = λ other. absurd (other refl);
      read_faults = served.read_faults ∙ told_reads c.args.words c.serve_after-end.result (g.R.Source.source.faults c.args.r.now) tells;
      write_faults = c.send.ensures.faults
          ∙ ap (λ sent. flush_faults_after sent (g.W.Sink.sink.faults c.serve_after-end.new.sink)) c.if-send.false
          ∙ ap counted (served.write_faults ∙ told_writes c.args.words c.serve_after-end.result (g.W.Sink.sink.faults c.args.w.now) tells);
      limit = λ e. cc;
      reads = served.reads;
    }
