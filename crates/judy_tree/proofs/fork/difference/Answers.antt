use Rattle.std.proofs.Common.{rules, arith}
use Rattle.judy_tree.proofs.lemmas.Heads.{last-head}
use Rattle.judy_tree.proofs.fork.difference.Goals as goal

pub returns : goal.returns
returns c = record { low = omega arith; differ = λ e. c.requires (last-head c.args.a c.args.b e); agree = search rules }
