use Rattle.std.proofs.Common.{◌∙◌, arith}
use Rattle.judy_branch.specs.declared.shape.Shape.TheVariants.{Bitmap}
use Rattle.judy_branch.proofs.Nth.{bitmap-nth, bitmap-from, bitmap-there, from-byte, paired-within}
use Rattle.judy_branch.proofs.Shapes.{bitmap-paired}
use Rattle.judy_branch.proofs.bitmap.nth.Goals as goal

pub overflow_cast-from : goal.overflow_cast-from
overflow_cast-from c = let f = from-byte c.args.words.now c.args.place c.args.from c.requires.laid c.requires.within c.requires.from in omega (arith, f)

pub bounds-words-place : goal.bounds-words-place
bounds-words-place c = let i = paired-within Bitmap c.args.words.now (bitmap-paired c.args.words.now c.requires.laid) c.args.place
    c.requires.within in let m = c.requires.laid.room in omega (arith, i, m)

pub unreachable-requires : goal.unreachable-requires
unreachable-requires c = bitmap-there c.args.words.now c.args.place c.requires.laid c.requires.within
    (bitmap-from _ _ _ _ _ c.requires.laid c.requires.within c.requires.from c.bit_words.ensures.same c.next_in.ensures ∙ c.in-None.is)

pub returns : goal.returns
returns c = bitmap-nth c.args.words.now c.args.place c.in-Some.byte c.requires.laid c.requires.within
    (bitmap-from _ _ _ _ _ c.requires.laid c.requires.within c.requires.from c.bit_words.ensures.same c.next_in.ensures ∙ c.in-Some.is)
