use Rattle.std.proofs.Common.{◌+◌, ◌*◌}
use Rattle.judy_string.proofs.search.+finds.Given as goal

abbrev pub decreases-find : goal.decreases-find
decreases-find l = 2 * l.room + 1

abbrev pub decreases-find_here : goal.decreases-find_here
decreases-find_here l = 2 * l.room
