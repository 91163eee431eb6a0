use Rattle.std.proofs.Common.{refl}
use Rattle.judy_tree.proofs.lemmas.Heads.{prefix-made}
use Rattle.judy_tree.proofs.fork.prefix_of.Goals as goal

pub returns-clause-clear : goal.returns-clause-clear
returns-clause-clear c = (prefix-made c.args.level c.args.key _ c.requires c.ranges.key.fits refl).0

pub returns-clause-head : goal.returns-clause-head
returns-clause-head c = (prefix-made c.args.level c.args.key _ c.requires c.ranges.key.fits refl).1
