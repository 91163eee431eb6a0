use Rattle.std.proofs.Common.{ap, sym, ◌∙◌}
use Rattle.judy_branch.specs.Slots.{child_words}
use Rattle.judy_branch.proofs.Branches.{has-shape, laid-words, children-words}
use Rattle.judy_branch.proofs.Spans.{part}
use Rattle.judy_branch.proofs.read.span.Goals as goal

pub read_shape-requires : goal.read_shape-requires
read_shape-requires c = has-shape c.args.arena.now.blocks c.args.branch c.requires.branch

pub span_in-requires : goal.span_in-requires
span_in-requires c = record {
  laid = laid-words c.args.arena.now.blocks c.args.branch c.read_shape.result c.look.result.now c.read_shape.ensures c.look.ensures.words c.requires.branch;
  rising = c.requires.rising;
  bytes = c.requires.bytes;
}

pub returns : goal.returns
returns c =
    let e = children-words c.args.arena.now.blocks c.args.branch c.read_shape.result c.look.result.now c.read_shape.ensures c.look.ensures.words in
    c.span_in.ensures ∙ ap (λ es. child_words (part c.args.from c.args.high es)) (sym e)
