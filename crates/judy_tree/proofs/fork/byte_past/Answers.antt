use Rattle.std.proofs.Common.{arith}
use Rattle.judy_tree.proofs.lemmas.Heads.{head-small}
use Rattle.judy_tree.proofs.fork.byte_past.Goals as goal

pub returns-clause-some : goal.returns-clause-some
returns-clause-some c =
    let a = head-small c.args.level c.args.key c.requires c.ranges.key.fits in
    let b = head-small c.args.level c.args.prefix c.requires c.ranges.prefix.fits in
    omega arith
