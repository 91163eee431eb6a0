use Rattle.judy_disk.proofs.Texts.{unstripped}
use Rattle.judy_disk.proofs.names.number_before.Goals as goal

pub returns-in-None : goal.returns-in-None
returns-in-None c = unstripped c.args.tail.now c.args.name.now c.in-None.ensures.cases
