use Rattle.std.proofs.Common.{◌≡◌, ◌+◌, ◌-◌, take, drop, ap, sym, ◌∙◌, arith}
use Rattle.judy_branch.specs.declared.shape.Shape.TheVariants.{Linear, Bitmap}
use Rattle.judy_branch.specs.Children.{children_in}
use Rattle.judy_branch.specs.Slots.{some_words, child_words}
use Rattle.judy_branch.proofs.Shapes.{linear-paired, bitmap-paired}
use Rattle.judy_branch.proofs.Spans.{part, full-span, linear-fits, shape-span}
use Rattle.judy_branch.proofs.read.span_in.Goals as goal

pub overflow_add-result : goal.overflow_add-result
overflow_add-result c =
    omega (arith, linear-fits c.args.shape c.args.words.now c.from-low.result c.place.result c.in-Linear.is c.requires.laid c.place.ensures)

pub overflow_add-result-in-Linear : goal.overflow_add-result-in-Linear
overflow_add-result-in-Linear c =
    omega (arith, linear-fits c.args.shape c.args.words.now c.args.high c.place-in-Linear.result c.in-Linear.is c.requires.laid c.place-in-Linear.ensures)

pub offset_bounds-words-place : goal.offset_bounds-words-place
offset_bounds-words-place c =
    omega (arith, linear-fits c.args.shape c.args.words.now c.from-low.result c.place.result c.in-Linear.is c.requires.laid c.place.ensures)

pub slice_bounds-result-end : goal.slice_bounds-result-end
slice_bounds-result-end c =
    (linear-fits c.args.shape c.args.words.now c.args.high c.place-in-Linear.result c.in-Linear.is c.requires.laid c.place-in-Linear.ensures).1

pub returns-in-Linear : goal.returns-in-Linear
returns-in-Linear c =
    shape-span c.args.shape Linear c.args.words.now (linear-paired c.args.words.now) c.from-low.result c.args.from c.args.high c.place.result
    c.place-in-Linear.result c.in-Linear.is c.requires.laid c.from-low.ensures c.requires.rising c.place.ensures c.place-in-Linear.ensures

pub returns-in-Bitmap : goal.returns-in-Bitmap
returns-in-Bitmap c =
    shape-span c.args.shape Bitmap c.args.words.now (bitmap-paired c.args.words.now) c.from-low.result c.args.from c.args.high
    c.place-in-Bitmap.result c.place-in-Bitmap-2.result c.in-Bitmap.is c.requires.laid c.from-low.ensures c.requires.rising
    c.place-in-Bitmap.ensures c.place-in-Bitmap-2.ensures

pub returns-in-Full : goal.returns-in-Full
returns-in-Full c =
    let a : c.from.result ≡ c.args.from = c.from.ensures ∙ c.from-low.ensures in
    let b : c.from-in-Full.result ≡ c.args.high = c.from-in-Full.ensures in
    ap (λ h. some_words (take (3 + h - (3 + c.from.result)) (drop (3 + c.from.result) c.args.words.now))) b
    ∙ ap (λ z. some_words (take (3 + c.args.high - (3 + z)) (drop (3 + z) c.args.words.now))) a
    ∙ full-span c.args.words.now c.args.from c.args.high c.requires.rising c.requires.bytes
    ∙ ap (λ s. child_words (part c.args.from c.args.high (children_in s c.args.words.now))) (sym c.in-Full.is)
