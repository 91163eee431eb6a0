use Rattle.std.proofs.Common.{◌*◌}
use Rattle.judy_disk.proofs.Pieces.{HasRead}
use Rattle.judy_disk.proofs.rewriting.read_before_zeros.Given as goal

-- the pieces so far, and where they end that are not zeros
abbrev pub invariant-loop-i : goal.invariant-loop-i
invariant-loop-i g l = HasRead l.place l.from (l.i * 65536) l.end l.fn.log.acts l.log.acts
