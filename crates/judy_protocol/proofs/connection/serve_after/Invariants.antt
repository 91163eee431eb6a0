use Rattle.std.proofs.Common.{◌≡◌, ◌+◌, ◌≤◌, ◌<◌, ◌-◌, ◌^◌, ℕ, List}
use Rattle.std.specs.Prelude.{option_map}
use Rattle.std.specs.Io.KnownBytes.{Consumes, prepend_known}
use Rattle.judy_stream.specs.Streams.{IsFlushed}
use Rattle.judy_protocol.specs.Services.{HasLoggedIn}
use Rattle.judy_protocol.specs.Talks.{Told, talk}
use Rattle.judy_protocol.proofs.connection.serve_after.Given as goal

abbrev pub invariant-loop-pulls : goal.invariant-loop-pulls
invariant-loop-pulls g l = record {
  heard : (stream : List ℕ) × Consumes (prepend_known l.fn.first (g.R.Source.source.left l.fn.source)) (g.R.Source.source.left l.source) stream
      × Told g.S.Served.made (g.S.Served.seen l.fn.service).logins l.fn.service (g.W.Sink.sink.taken l.fn.sink) stream
      (talk g.S.Served.who l.held l.speaker l.service (g.W.Sink.sink.taken l.sink));
  logins : (g.S.Served.seen l.service).logins ≡ (g.S.Served.seen l.fn.service).logins;
  speakers : (g.S.Served.seen l.service).speakers ≡ (g.S.Served.seen l.fn.service).speakers;
  known : HasLoggedIn (g.S.Served.seen l.service).speakers (option_map g.S.Served.who l.speaker);
  flushed : IsFlushed (g.W.Sink.sink.pending l.fn.sink) (g.W.Sink.sink.pending l.sink);
  ends : g.R.Source.source.ends l.source ≡ g.R.Source.source.ends l.fn.source;
  read_faults : g.R.Source.source.faults l.source ≡ g.R.Source.source.faults l.fn.source;
  write_faults : g.W.Sink.sink.faults l.sink ≡ g.W.Sink.sink.faults l.fn.sink;
  gave : g.R.Source.source.gave l.source < 2 ^ 64 - 1 → g.R.Source.source.gave l.source ≡ g.R.Source.source.gave l.fn.source + l._pulls;
  few : g.R.Source.source.gave l.source ≤ g.R.Source.source.gave l.fn.source + l._pulls;
}
