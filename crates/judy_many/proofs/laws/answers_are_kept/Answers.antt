use Rattle.judy_many.proofs.Disk.{answers_are_kept}
use Rattle.judy_many.proofs.laws.answers_are_kept.Goals as goal

pub returns : goal.returns
returns c = answers_are_kept
