use Rattle.judy_disk.proofs.names.numbers_are_read.Goals as goal
use Rattle.judy_disk.proofs.NameLaws.{numbers_read}

pub returns : goal.returns
returns c = numbers_read
