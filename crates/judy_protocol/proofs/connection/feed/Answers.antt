use Rattle.std.proofs.Common.{arith, ◌≡◌, ◌<◌, ◌≤◌, [], ◌∷◌, ◌++◌, List, ℕ, refl, length, sym, ap, ◌∙◌, subst, append_assoc, append-nil}
use Rattle.std.specs.Io.KnownBytes.{Appends}
use Rattle.std.proofs.lemmas.Bool.{false≢true}
use Rattle.std.proofs.lemmas.List.{length-append}
use Rattle.judy_protocol.proofs.Talking.{Hears-append, Hears-chunk, Hears-gathered}
use Rattle.judy_protocol.specs.Sending.{AreAnswers}
use Rattle.judy_protocol.specs.Talks.{talk}
use Rattle.judy_protocol.proofs.lemmas.SendingLaws.{MaySend-later, answers_some, gathered_answers}
use Rattle.judy_protocol.proofs.connection.feed.Goals as goal

-- the bytes in their parts: those heard before, those of the gathered lines, and the others
in_parts : (heard used rest chunk after left pulled : List ℕ) → used ++ rest ≡ chunk ++ 10 ∷ after → left ≡ chunk ++ 10 ∷ after → heard ++ left ≡ pulled
    → heard ++ (used ++ rest) ≡ pulled
in_parts heard used rest chunk after left pulled cut is h = ap (λ v. heard ++ v) (cut ∙ sym is) ∙ h

fewer_left : (heard rest chunk after left pulled : List ℕ) → length rest ≤ length after → left ≡ chunk ++ 10 ∷ after → heard ++ left ≡ pulled
    → length rest < length pulled
fewer_left heard rest chunk after left pulled few is h =
    omega (arith, few, ap length h, ap length is, length-append heard left, length-append chunk (10 ∷ after))

pub send-requires-clause-some : goal.send-requires-clause-some
send-requires-clause-some g c =
    let are = gathered_answers _ _ _ _ _ _ _ _ _ _ _ c.gather-gathered.ensures.gathers.2 c.gather-gathered.ensures.short in
    rw (sym c.as_slice.ensures.value) at (answers_some _ are)

pub send-requires-clause-answers : goal.send-requires-clause-answers
send-requires-clause-answers g c =
    let are = gathered_answers _ _ _ _ _ _ _ _ _ _ _ c.gather-gathered.ensures.gathers.2 c.gather-gathered.ensures.short in
    MaySend-later _ (AreAnswers c.args.batch) _ c.args.sink.now c.loop-chunk.sink
    (λ text e. subst (AreAnswers c.args.batch) (sym (e ∙ c.as_slice.ensures.value)) are)
    c.loop-chunk.invariant.flushed c.requires.answers

pub returns-then-not-send-clause-heard : goal.returns-then-not-send-clause-heard
returns-then-not-send-clause-heard g c =
    let h = c.loop-chunk.invariant.heard in
    let k = c.gather-gathered.ensures.gathers in
    let gathers = rw c.loop-chunk.invariant.logins at k.2 in
    let p = c.send.ensures.part c.if-not-send.true in
    record {
      kept = h.0;
      cut = k.0;
      unheard = c.gather-gathered.result.rest.now;
      mid = talk g.S.Served.who c.loop-chunk.held c.loop-chunk.speaker c.loop-chunk.service (g.W.Sink.sink.taken c.loop-chunk.sink);
      quit = c.gather-gathered.result.quit;
      held = c.gather-gathered.new.held;
      who = _;
      text = c.gather-gathered.new.rooms.answers.items;
      sent = p.0;
      missing = p.1;
      parts = in_parts h.0 k.0 _ c.in-Some.chunk.now c.in-Some.after.now _ _ k.1 c.in-Some.ensures.1 h.1;
      few = fewer_left h.0 _ c.in-Some.chunk.now c.in-Some.after.now _ _ c.gather-gathered.ensures.fewer c.in-Some.ensures.1 h.1;
      hears = h.2;
      gathers = gathers;
      short = c.gather-gathered.ensures.short;
      split = p.2 ∙ c.as_slice.ensures.value;
      written = p.3;
      flushed = λ none waits. c.loop-chunk.invariant.flushed (sym (p.4 none) ∙ waits);
      by = tt;
    }

pub returns-then-gathered-clause-heard : goal.returns-then-gathered-clause-heard
returns-then-gathered-clause-heard g c =
    let h = c.loop-chunk.invariant.heard in
    let k = c.gather-gathered.ensures.gathers in
    let gathers = rw c.loop-chunk.invariant.logins at k.2 in
    let text = c.gather-gathered.new.rooms.answers.items in
    record {
      kept = h.0;
      cut = k.0;
      unheard = c.gather-gathered.result.rest.now;
      mid = talk g.S.Served.who c.loop-chunk.held c.loop-chunk.speaker c.loop-chunk.service (g.W.Sink.sink.taken c.loop-chunk.sink);
      quit = c.gather-gathered.result.quit;
      held = c.gather-gathered.new.held;
      who = _;
      text = text;
      sent = text;
      missing = [];
      parts = in_parts h.0 k.0 _ c.in-Some.chunk.now c.in-Some.after.now _ _ k.1 c.in-Some.ensures.1 h.1;
      few = fewer_left h.0 _ c.in-Some.chunk.now c.in-Some.after.now _ _ c.gather-gathered.ensures.fewer c.in-Some.ensures.1 h.1;
      hears = h.2;
      gathers = gathers;
      short = c.gather-gathered.ensures.short;
      split = append-nil text;
      written = subst (Appends (g.W.Sink.sink.taken c.loop-chunk.sink) (g.W.Sink.sink.taken c.send.new.sink)) c.as_slice.ensures.value
          (c.send.ensures.sent c.if-not-send.false);
      flushed = λ none waits. absurd (false≢true (sym (c.send.ensures.flushed c.if-not-send.false) ∙ waits));
      by = (c.if-gathered.true, refl);
    }

pub loop-chunk-preserved : goal.loop-chunk-preserved
loop-chunk-preserved g c =
    let h = c.loop-chunk.invariant.heard in
    let k = c.gather-gathered.ensures.gathers in
    let gathers = rw (c.loop-chunk.invariant.logins, c.if-gathered.false) at k.2 in
    let sent = subst (Appends (g.W.Sink.sink.taken c.loop-chunk.sink) (g.W.Sink.sink.taken c.send.new.sink)) c.as_slice.ensures.value
    (c.send.ensures.sent c.if-not-send.false) in
    record {
      heard = (
        h.0 ++ k.0,
        append_assoc h.0 k.0 c.gather-gathered.result.rest.now
            ∙ in_parts h.0 k.0 _ c.in-Some.chunk.now c.in-Some.after.now _ _ k.1 c.in-Some.ensures.1 h.1,
        Hears-append _ _ h.0 k.0 _ _ _ h.2 (Hears-gathered _ _ k.0 _ _ _ gathers sent),
      );
      logins = c.gather-gathered.ensures.logins ∙ c.loop-chunk.invariant.logins;
      speakers = c.gather-gathered.ensures.speakers ∙ c.loop-chunk.invariant.speakers;
      known = c.gather-gathered.ensures.known;
      flushed = λ waits. absurd (false≢true (sym (c.send.ensures.flushed c.if-not-send.false) ∙ waits));
      faults = c.if-not-send.ensures.faults ∙ c.loop-chunk.invariant.faults;
    }

pub returns-clause-heard : goal.returns-clause-heard
returns-clause-heard g c =
    let h = c.loop-chunk.invariant.heard in
    let first = talk g.S.Served.who c.args.held.now c.args.speaker.now c.args.service.now (g.W.Sink.sink.taken c.args.sink.now) in
    let mid = talk g.S.Served.who c.loop-chunk.held c.loop-chunk.speaker c.loop-chunk.service (g.W.Sink.sink.taken c.loop-chunk.sink) in
    let last = record mid { held = c.hold.new.self } in
    let whole = Hears-append _ _ h.0 c.loop-chunk.rest.now first mid last h.2 (Hears-chunk _ _ c.loop-chunk.rest.now mid c.hold.new.self c.in_default.ensures c.hold.ensures) in
    rw h.1 at whole
