use Rattle.std.proofs.Common.{◌-◌}
use Rattle.judy_arena.proofs.pool.+give_back.Given as goal

abbrev pub decreases-give_back : goal.decreases-give_back
decreases-give_back l = 8 - l.class
