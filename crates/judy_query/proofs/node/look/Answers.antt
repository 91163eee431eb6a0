use Rattle.std.proofs.Common.{arith}
use Rattle.judy_tree.proofs.lemmas.BranchLaws.{branch-sound}
use Rattle.judy_query.proofs.node.look.Goals as goal

pub returns-clause-low : goal.returns-clause-low
returns-clause-low c = let s = (branch-sound c.args.arena.now.blocks c.args.node c.requires).level in let e = c.head.ensures.level in omega arith
