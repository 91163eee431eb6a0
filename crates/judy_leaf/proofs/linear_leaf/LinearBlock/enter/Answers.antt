use Rattle.std.proofs.Common.{is_some, ap}
use Rattle.judy_arena.specs.Blocks.{words_of}
use Rattle.judy_leaf.proofs.LinearLaws.{look-other}
use Rattle.judy_leaf.proofs.linear_leaf.LinearBlock.enter.Goals as goal

pub outgrow-requires-clause-absent : goal.outgrow-requires-clause-absent
outgrow-requires-clause-absent c = ap is_some (look-other c.args.self.values (words_of c.args.arena.now.blocks c.args.self.block)
    c.requires.leaf.0 c.args.place c.args.key c.requires.place)
