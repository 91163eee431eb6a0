use Rattle.std.proofs.Common.{◌≡◌, ℕ, List, ◌++◌, length}
use Rattle.std.specs.Prelude.{option_map}
use Rattle.judy_stream.specs.Streams.{IsFlushed}
use Rattle.judy_protocol.specs.Services.{HasLoggedIn}
use Rattle.judy_protocol.specs.Talks.{Hears, talk}
use Rattle.judy_protocol.proofs.connection.feed.Given as goal

abbrev pub invariant-loop-chunk : goal.invariant-loop-chunk
invariant-loop-chunk g l = record {
  heard : (heard : List ℕ) × (heard ++ l.rest ≡ l.pulled) × Hears g.S.Served.made (g.S.Served.seen l.fn.service).logins heard
      (talk g.S.Served.who l.fn.held l.fn.speaker l.fn.service (g.W.Sink.sink.taken l.fn.sink))
      (talk g.S.Served.who l.held l.speaker l.service (g.W.Sink.sink.taken l.sink));
  logins : (g.S.Served.seen l.service).logins ≡ (g.S.Served.seen l.fn.service).logins;
  speakers : (g.S.Served.seen l.service).speakers ≡ (g.S.Served.seen l.fn.service).speakers;
  known : HasLoggedIn (g.S.Served.seen l.service).speakers (option_map g.S.Served.who l.speaker);
  flushed : IsFlushed (g.W.Sink.sink.pending l.fn.sink) (g.W.Sink.sink.pending l.sink);
  faults : g.W.Sink.sink.faults l.sink ≡ g.W.Sink.sink.faults l.fn.sink;
}

abbrev pub decreases-loop-chunk : goal.decreases-loop-chunk
decreases-loop-chunk g l = length l.rest
