use Rattle.std.proofs.Common.{◌≡◌, ◌-◌, length}
use Rattle.std.specs.Io.KnownBytes.{Consumes}
use Rattle.judy_programs.proofs.config.read_file.Given as goal

abbrev pub invariant-loop-pulled : goal.invariant-loop-pulled
invariant-loop-pulled g l = record {
  given : Consumes (g.R.Source.source.left l.fn.r) (g.R.Source.source.left l.r) l.bytes.items;
  ends : g.R.Source.source.ends l.r ≡ g.R.Source.source.ends l.fn.r;
  faults : g.R.Source.source.faults l.r ≡ g.R.Source.source.faults l.fn.r;
}

abbrev pub decreases-loop-pulled : goal.decreases-loop-pulled
decreases-loop-pulled g l = 65537 - length l.bytes.items
