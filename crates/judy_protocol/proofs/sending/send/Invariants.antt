use Rattle.std.proofs.Common.{◌≡◌, ◌<◌, ℕ, true, List, [], ◌++◌, length}
use Rattle.std.specs.Io.KnownBytes.{Appends}
use Rattle.judy_protocol.proofs.sending.send.Given as goal

abbrev pub invariant-loop-rest : goal.invariant-loop-rest
invariant-loop-rest g l = record {
  sent : (sent : List ℕ) × (sent ++ l.rest ≡ l.bytes) × Appends (g.W.Sink.sink.taken l.fn.sink) (g.W.Sink.sink.taken l.sink) sent
      × (sent ≡ [] → g.W.Sink.sink.pending l.sink ≡ g.W.Sink.sink.pending l.fn.sink);
  waits : length l.rest < length l.bytes → g.W.Sink.sink.pending l.sink ≡ true;
  faults : g.W.Sink.sink.faults l.sink ≡ g.W.Sink.sink.faults l.fn.sink;
}

abbrev pub decreases-loop-rest : goal.decreases-loop-rest
decreases-loop-rest g l = length l.rest
