use Rattle.std.proofs.Common.{arith}
use Rattle.judy_branch.specs.declared.shape.Shape.TheVariants.{Linear}
use Rattle.judy_branch.proofs.Nth.{linear-nth, paired-within}
use Rattle.judy_branch.proofs.Shapes.{linear-paired}
use Rattle.judy_branch.proofs.linear.nth.Goals as goal

pub byte_at-requires : goal.byte_at-requires
byte_at-requires c = let i = paired-within Linear c.args.words.now (linear-paired c.args.words.now c.requires.laid) c.args.place
    c.requires.within in let m = c.requires.laid.most in omega arith

pub overflow_add-result : goal.overflow_add-result
overflow_add-result c = let i = paired-within Linear c.args.words.now (linear-paired c.args.words.now c.requires.laid)
    c.args.place c.requires.within in let m = c.requires.laid.most in omega arith

pub offset_bounds-words-place : goal.offset_bounds-words-place
offset_bounds-words-place c = let i = paired-within Linear c.args.words.now (linear-paired c.args.words.now c.requires.laid)
    c.args.place c.requires.within in let m = c.requires.laid.most in omega arith

pub bounds-words-place : goal.bounds-words-place
bounds-words-place c = let i = paired-within Linear c.args.words.now (linear-paired c.args.words.now c.requires.laid) c.args.place
    c.requires.within in let m = c.requires.laid.room in omega arith

pub returns : goal.returns
returns c = linear-nth c.args.words.now c.args.place c.byte_at.result c.requires.laid c.requires.within c.byte_at.ensures
