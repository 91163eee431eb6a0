use Rattle.std.proofs.Common.{◌*◌}
use Rattle.judy_disk.proofs.Pieces.{HasCopied}
use Rattle.judy_disk.proofs.rewriting.copy.Given as goal

-- the pieces so far
abbrev pub invariant-loop-i : goal.invariant-loop-i
invariant-loop-i g l = HasCopied l.span (l.i * 65536) l.fn.log.acts l.log.acts
