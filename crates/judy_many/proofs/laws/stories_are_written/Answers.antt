use Rattle.judy_many.proofs.Disk.{stories_are_written}
use Rattle.judy_many.proofs.laws.stories_are_written.Goals as goal

pub returns : goal.returns
returns c = stories_are_written
