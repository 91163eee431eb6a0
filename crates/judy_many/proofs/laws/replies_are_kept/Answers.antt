use Rattle.judy_many.proofs.Disk.{replies_are_kept}
use Rattle.judy_many.proofs.laws.replies_are_kept.Goals as goal

pub returns : goal.returns
returns c = replies_are_kept
