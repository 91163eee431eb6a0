use Rattle.std.proofs.Common.{arith, [], ◌++◌, refl, ◌∙◌, ap, take, ◌≡◌, ◌≤◌, ℕ, List, length, Option, Some, None}
use Rattle.std.proofs.lemmas.List.{length-take-le}
use Rattle.judy_stream.specs.Streams.{counted}
use Rattle.judy_model.specs.Speakers.{Speaker}
use Rattle.judy_model.specs.Stream.{Login}
use Rattle.judy_protocol.specs.Services.{Made}
use Rattle.judy_protocol.specs.Talks.{Holds, Told, talk}
use Rattle.judy_protocol.specs.declared.connection.Stop.TheVariants as stop
use Rattle.judy_protocol.specs.declared.held.Held.{Held}
use Rattle.judy_protocol.proofs.KnownBytes.{Appends-nil, Consumes-append, Consumes-keeps, Consumes-prepend}
use Rattle.judy_protocol.proofs.Talking.{Turns-none}
use Rattle.judy_protocol.proofs.Ending.{all_open, all_quit, part_flushed, part_run}
use Rattle.judy_protocol.specs.Sending.{AreAnswers}
use Rattle.judy_protocol.proofs.lemmas.SendingLaws.{MaySend-later}
use Rattle.judy_protocol.proofs.connection.serve_after.Goals as goal

-- a line that asks to quit is no failed write
unlike : Some stop.Quit ≡ Some stop.WriteFault → ⊥
unlike e = cc

-- the bytes of a pull
pull_fits : (n room : ℕ) (buffer : List ℕ) → n ≤ length buffer → length buffer ≡ room → room ≤ 4096 → length (take n buffer) ≤ 4096
pull_fits n room buffer fits full short = omega (arith, fits, full, short, length-take-le n buffer fits)

-- nothing was heard yet
begun : {S P : Type 0} (made : Made S) (login : Login) (who : P → Speaker) (held : Held) (first : S) (taken : Option (List ℕ)) → Holds [] held
    → Told made login first taken [] (talk who held None first taken)
begun made login who held first taken empty = record {
  holds = empty;
  goes_on = refl;
  answered = record { text = []; turns = Turns-none made login None first; written = Appends-nil taken };
}

pub loop-pulls-init : goal.loop-pulls-init
loop-pulls-init g c = record {
  heard = (
    c.args.first.now,
    Consumes-prepend c.args.first.now (g.R.Source.source.left c.args.source.now),
    c.in-None.ensures.heard c.args.service.now (g.W.Sink.sink.taken c.args.sink.now) []
        (begun g.S.Served.made (g.S.Served.seen c.args.service.now).logins g.S.Served.who _ c.args.service.now
        (g.W.Sink.sink.taken c.args.sink.now) c.new-held.ensures),
  );
  logins = c.in-None.ensures.logins;
  speakers = c.in-None.ensures.speakers;
  known = c.in-None.ensures.known;
  flushed = c.in-None.ensures.flushed (λ e. cc);
  ends = refl;
  read_faults = refl;
  write_faults = c.in-None.ensures.faults;
  gave = λ _. omega arith;
  few = omega arith;
}

pub returns-in-Some-Quit : goal.returns-in-Some-Quit
returns-in-Some-Quit g c =
    let stops = rw c.in-Some-Quit.field-0-is at c.in-Some-Quit.ensures.heard in
    record {
      served = all_quit g.S.Served.made g.S.Served.seen g.met.S.Served.apart c.served_runs_go_on.ensures c.one_call_is_a_run.ensures
          c.tenants_are_answered_equally.ensures _ _ [] c.args.first.now _ _ _ _ _
          (Consumes-prepend c.args.first.now (g.R.Source.source.left c.args.source.now)) c.requires.short
          (begun g.S.Served.made (g.S.Served.seen c.args.service.now).logins g.S.Served.who _ c.args.service.now
          (g.W.Sink.sink.taken c.args.sink.now) c.new-held.ensures) stops;
      end = λ e. cc;
      flushed = λ h. (rw c.in-Some-Quit.field-0-is at c.in-Some-Quit.ensures.flushed) unlike;
      flushed_before = tt;
      ends = refl;
      read_faults = refl;
      write_faults = rw c.in-Some-Quit.field-0-is at c.in-Some-Quit.ensures.faults;
      limit = λ e. cc;
      reads = omega arith;
    }

pub returns-in-Some-WriteFault : goal.returns-in-Some-WriteFault
returns-in-Some-WriteFault g c =
    let stops = rw c.in-Some-WriteFault.field-0-is at c.in-Some-WriteFault.ensures.heard in
    record {
      served = part_run g.S.Served.made g.S.Served.seen g.met.S.Served.apart c.served_runs_go_on.ensures c.one_call_is_a_run.ensures
          c.tenants_are_answered_equally.ensures _ _ [] c.args.first.now _ _ _ _ _
          (Consumes-prepend c.args.first.now (g.R.Source.source.left c.args.source.now)) c.requires.short
          (begun g.S.Served.made (g.S.Served.seen c.args.service.now).logins g.S.Served.who _ c.args.service.now
          (g.W.Sink.sink.taken c.args.sink.now) c.new-held.ensures) stops;
      end = λ e. cc;
      flushed = λ h. absurd (h refl);
      flushed_before = part_flushed g.S.Served.made g.S.Served.seen g.met.S.Served.apart c.served_runs_go_on.ensures
          c.one_call_is_a_run.ensures c.tenants_are_answered_equally.ensures _ _ [] c.args.first.now _ _ _ _ _
          (Consumes-prepend c.args.first.now (g.R.Source.source.left c.args.source.now)) c.requires.short
          (begun g.S.Served.made (g.S.Served.seen c.args.service.now).logins g.S.Served.who _ c.args.service.now
          (g.W.Sink.sink.taken c.args.sink.now) c.new-held.ensures) stops;
      ends = refl;
      read_faults = refl;
      write_faults = rw c.in-Some-WriteFault.field-0-is at c.in-Some-WriteFault.ensures.faults;
      limit = λ e. cc;
      reads = omega arith;
    }

pub feed-requires-in-Bytes-clause-answers : goal.feed-requires-in-Bytes-clause-answers
feed-requires-in-Bytes-clause-answers g c =
    MaySend-later _ (AreAnswers c.args.batch) (AreAnswers c.args.batch) c.args.sink.now c.loop-pulls.sink (λ text is. is)
    c.loop-pulls.invariant.flushed c.requires.answers

pub pull-requires-clause-ready : goal.pull-requires-clause-ready
pull-requires-clause-ready g c = c.requires.prompt c.loop-pulls.source c.loop-pulls.sink _ (omega arith) (record {
  after = c.loop-pulls.service;
  run = all_open g.S.Served.made g.S.Served.seen g.met.S.Served.apart c.served_runs_go_on.ensures c.one_call_is_a_run.ensures
      c.tenants_are_answered_equally.ensures _ _ c.loop-pulls.invariant.heard.0 _ _ _ c.loop-pulls.invariant.heard.1
      c.loop-pulls.invariant.heard.2;
  flushed = c.loop-pulls.invariant.flushed;
})

pub returns-in-End : goal.returns-in-End
returns-in-End g c =
    record {
      served = all_open g.S.Served.made g.S.Served.seen g.met.S.Served.apart c.served_runs_go_on.ensures
          c.one_call_is_a_run.ensures c.tenants_are_answered_equally.ensures _ _ c.loop-pulls.invariant.heard.0 _ _ _
          (Consumes-keeps _ _ _ _ c.loop-pulls.invariant.heard.1 c.in-End.ensures.bytes) c.loop-pulls.invariant.heard.2;
      end = λ e. c.in-End.ensures.end;
      flushed = λ h. c.loop-pulls.invariant.flushed;
      flushed_before = tt;
      ends = c.in-End.ensures.ends ∙ ap counted c.loop-pulls.invariant.ends;
      read_faults = c.in-End.ensures.faults ∙ c.loop-pulls.invariant.read_faults;
      write_faults = c.loop-pulls.invariant.write_faults;
      limit = λ e. cc;
      reads = omega (arith, c.in-End.ensures.gave, c.loop-pulls.invariant.few, c.loop-pulls-test.true);
    }

pub returns-in-Fault : goal.returns-in-Fault
returns-in-Fault g c =
    record {
      served = all_open g.S.Served.made g.S.Served.seen g.met.S.Served.apart c.served_runs_go_on.ensures
          c.one_call_is_a_run.ensures c.tenants_are_answered_equally.ensures _ _ c.loop-pulls.invariant.heard.0 _ _ _
          (Consumes-keeps _ _ _ _ c.loop-pulls.invariant.heard.1 c.in-Fault.ensures.bytes) c.loop-pulls.invariant.heard.2;
      end = λ e. cc;
      flushed = λ h. c.loop-pulls.invariant.flushed;
      flushed_before = tt;
      ends = c.in-Fault.ensures.ends ∙ c.loop-pulls.invariant.ends;
      read_faults = c.in-Fault.ensures.faults ∙ ap counted c.loop-pulls.invariant.read_faults;
      write_faults = c.loop-pulls.invariant.write_faults;
      limit = λ e. cc;
      reads = omega (arith, c.in-Fault.ensures.gave, c.loop-pulls.invariant.few, c.loop-pulls-test.true);
    }

pub returns : goal.returns
returns g c =
    record {
      served = all_open g.S.Served.made g.S.Served.seen g.met.S.Served.apart c.served_runs_go_on.ensures
          c.one_call_is_a_run.ensures c.tenants_are_answered_equally.ensures _ _ c.loop-pulls.invariant.heard.0 _ _ _
          c.loop-pulls.invariant.heard.1 c.loop-pulls.invariant.heard.2;
      end = λ e. cc;
      flushed = λ h. c.loop-pulls.invariant.flushed;
      flushed_before = tt;
      ends = c.loop-pulls.invariant.ends;
      read_faults = c.loop-pulls.invariant.read_faults;
      write_faults = c.loop-pulls.invariant.write_faults;
      limit = λ e few. omega (arith, c.loop-pulls.invariant.gave few, c.loop-pulls-test.false, c.loop-pulls.auto._pulls-end);
      reads = omega (arith, c.loop-pulls.invariant.few, c.loop-pulls.auto._pulls-end);
    }

pub returns-in-Some-Quit-feed : goal.returns-in-Some-Quit-feed
returns-in-Some-Quit-feed g c =
    let h = c.loop-pulls.invariant.heard in
    let stops = rw (c.loop-pulls.invariant.logins, c.in-Some-Quit-feed.field-0-is) at c.in-Some-Quit-feed.ensures.heard in
    let short = pull_fits c.in-Bytes.n _ c.pull.new.buf c.in-Bytes.ensures.bytes.1 c.pull.auto.buf (omega arith) in
    record {
      served = all_quit g.S.Served.made g.S.Served.seen g.met.S.Served.apart c.served_runs_go_on.ensures c.one_call_is_a_run.ensures
          c.tenants_are_answered_equally.ensures _ _ h.0 (take c.in-Bytes.n c.pull.new.buf) _ _ _ _ _
          (Consumes-append _ _ _ _ _ h.1 c.in-Bytes.ensures.bytes.2) short h.2 stops;
      end = λ e. cc;
      flushed = λ h waits. c.loop-pulls.invariant.flushed ((rw c.in-Some-Quit-feed.field-0-is at c.in-Some-Quit-feed.ensures.flushed) unlike waits);
      flushed_before = tt;
      ends = c.in-Bytes.ensures.ends ∙ c.loop-pulls.invariant.ends;
      read_faults = c.in-Bytes.ensures.faults ∙ c.loop-pulls.invariant.read_faults;
      write_faults = (rw c.in-Some-Quit-feed.field-0-is at c.in-Some-Quit-feed.ensures.faults) ∙ c.loop-pulls.invariant.write_faults;
      limit = λ e. cc;
      reads = omega (arith, c.in-Bytes.ensures.gave, c.loop-pulls.invariant.few, c.loop-pulls-test.true);
    }

pub returns-in-Some-WriteFault-feed : goal.returns-in-Some-WriteFault-feed
returns-in-Some-WriteFault-feed g c =
    let h = c.loop-pulls.invariant.heard in
    let stops = rw (c.loop-pulls.invariant.logins, c.in-Some-WriteFault-feed.field-0-is) at c.in-Some-WriteFault-feed.ensures.heard in
    let short = pull_fits c.in-Bytes.n _ c.pull.new.buf c.in-Bytes.ensures.bytes.1 c.pull.auto.buf (omega arith) in
    record {
      served = part_run g.S.Served.made g.S.Served.seen g.met.S.Served.apart c.served_runs_go_on.ensures c.one_call_is_a_run.ensures
          c.tenants_are_answered_equally.ensures _ _ h.0 (take c.in-Bytes.n c.pull.new.buf) _ _ _ _ _
          (Consumes-append _ _ _ _ _ h.1 c.in-Bytes.ensures.bytes.2) short h.2 stops;
      end = λ e. cc;
      flushed = λ h. absurd (h refl);
      flushed_before = λ none waits. c.loop-pulls.invariant.flushed (part_flushed g.S.Served.made g.S.Served.seen g.met.S.Served.apart
          c.served_runs_go_on.ensures c.one_call_is_a_run.ensures c.tenants_are_answered_equally.ensures _ _ h.0
          (take c.in-Bytes.n c.pull.new.buf) _ _ _ _ _ (Consumes-append _ _ _ _ _ h.1 c.in-Bytes.ensures.bytes.2) short h.2 stops none waits);
      ends = c.in-Bytes.ensures.ends ∙ c.loop-pulls.invariant.ends;
      read_faults = c.in-Bytes.ensures.faults ∙ c.loop-pulls.invariant.read_faults;
      write_faults = (rw c.in-Some-WriteFault-feed.field-0-is at c.in-Some-WriteFault-feed.ensures.faults) ∙ ap counted c.loop-pulls.invariant.write_faults;
      limit = λ e. cc;
      reads = omega (arith, c.in-Bytes.ensures.gave, c.loop-pulls.invariant.few, c.loop-pulls-test.true);
    }

pub loop-pulls-preserved : goal.loop-pulls-preserved
loop-pulls-preserved g c =
    let h = c.loop-pulls.invariant.heard in
    let k = c.in-None-feed.ensures.heard in
    let more = rw c.loop-pulls.invariant.logins at k in
    record {
      heard = (
        h.0 ++ take c.in-Bytes.n c.pull.new.buf,
        Consumes-append _ _ _ _ _ h.1 c.in-Bytes.ensures.bytes.2,
        more _ _ h.0 h.2,
      );
      logins = c.in-None-feed.ensures.logins ∙ c.loop-pulls.invariant.logins;
      speakers = c.in-None-feed.ensures.speakers ∙ c.loop-pulls.invariant.speakers;
      known = c.in-None-feed.ensures.known;
      flushed = λ waits. c.loop-pulls.invariant.flushed (c.in-None-feed.ensures.flushed (λ e. cc) waits);
      ends = c.in-Bytes.ensures.ends ∙ c.loop-pulls.invariant.ends;
      read_faults = c.in-Bytes.ensures.faults ∙ c.loop-pulls.invariant.read_faults;
      write_faults = c.in-None-feed.ensures.faults ∙ c.loop-pulls.invariant.write_faults;
      gave = λ h. omega (arith, c.in-Bytes.ensures.gave, c.loop-pulls.invariant.gave);
      few = omega (arith, c.in-Bytes.ensures.gave, c.loop-pulls.invariant.few);
    }
