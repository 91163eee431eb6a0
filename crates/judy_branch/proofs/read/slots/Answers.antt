use Rattle.std.proofs.Common.{ap, sym, ◌∙◌}
use Rattle.judy_branch.specs.Slots.{child_words}
use Rattle.judy_branch.proofs.Branches.{has-shape, laid-words, children-words}
use Rattle.judy_branch.proofs.read.slots.Goals as goal

pub read_shape-requires : goal.read_shape-requires
read_shape-requires c = has-shape c.args.arena.now.blocks c.args.branch c.requires

pub slots_in-requires : goal.slots_in-requires
slots_in-requires c = laid-words c.args.arena.now.blocks c.args.branch c.read_shape.result c.look.result.now c.read_shape.ensures
    c.look.ensures.words c.requires

pub returns : goal.returns
returns c =
    let e = children-words c.args.arena.now.blocks c.args.branch c.read_shape.result c.look.result.now c.read_shape.ensures c.look.ensures.words in
    c.slots_in.ensures ∙ ap (λ es. child_words es) (sym e)
