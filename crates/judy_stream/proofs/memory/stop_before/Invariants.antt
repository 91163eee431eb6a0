use Rattle.std.proofs.Common.{◌≡◌, ◌<◌, ◌≤◌, drop}
use Rattle.judy_stream.specs.Tapes.{next_stop}
use Rattle.judy_stream.proofs.memory.stop_before.Given as goal

abbrev pub invariant-loop-place : goal.invariant-loop-place
invariant-loop-place l = record {
  rest : next_stop l.at (drop l.place-index l.places) l.stop ≡ next_stop l.at l.places l.bound;
  above : l.at < l.stop;
  within : l.stop ≤ l.bound;
}
