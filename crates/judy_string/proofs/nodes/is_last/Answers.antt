use Rattle.judy_string.proofs.Spells.{last-byte}
use Rattle.judy_string.proofs.nodes.is_last.Goals as goal

pub returns : goal.returns
returns c = last-byte c.args.word c.requires
