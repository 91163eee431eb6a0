use Rattle.std.proofs.Common.{◌≡◌, ◌≤◌, ◌+◌, ◌-◌, ◌^◌, ◌<◌, length}
use Rattle.std.specs.Io.KnownBytes.{Consumes}
use Rattle.judy_programs.specs.TableEnds.{IsSoFar}
use Rattle.judy_programs.proofs.reading.read_table.Given as goal

abbrev pub invariant-loop-n : goal.invariant-loop-n
invariant-loop-n g l = record {
  given : Consumes (g.R.Source.source.left l.fn.r) (g.R.Source.source.left l.r) l.bytes.items;
  so_far : IsSoFar l.bytes.items l.lines;
  ends : g.R.Source.source.ends l.r ≡ g.R.Source.source.ends l.fn.r;
  faults : g.R.Source.source.faults l.r ≡ g.R.Source.source.faults l.fn.r;
  more : g.R.Source.source.gave l.r < 2 ^ 64 - 1 → g.R.Source.source.gave l.fn.r ≤ g.R.Source.source.gave l.r;
  reads : g.R.Source.source.gave l.r ≤ g.R.Source.source.gave l.fn.r + length l.bytes.items;
}

abbrev pub decreases-loop-n : goal.decreases-loop-n
decreases-loop-n g l = 65541 - length l.bytes.items
