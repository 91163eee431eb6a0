use Rattle.std.proofs.Common.{◌+◌, ◌*◌}
use Rattle.judy_string.proofs.search.+ends.Given as goal

abbrev pub decreases-end_at : goal.decreases-end_at
decreases-end_at l = 2 * l.room + 1

abbrev pub decreases-end_under : goal.decreases-end_under
decreases-end_under l = 2 * l.room
