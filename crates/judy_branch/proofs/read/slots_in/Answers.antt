use Rattle.std.proofs.Common.{◌%◌, ap, sym, ◌∙◌, refl, subst, get_or}
use Rattle.judy_branch.specs.declared.shape.Shape.TheVariants.{Linear, Bitmap}
use Rattle.judy_branch.specs.Children.{IsLaid, children_in}
use Rattle.judy_branch.specs.Slots.{child_words}
use Rattle.judy_branch.proofs.Shapes.{linear-paired, bitmap-paired}
use Rattle.judy_branch.proofs.Stretches.{paired-slots, full-slots, stretch, less}
use Rattle.judy_branch.proofs.read.slots_in.Goals as goal

pub returns-in-Linear : goal.returns-in-Linear
returns-in-Linear c =
    let ws = c.args.words.now in
    let laid : IsLaid Linear ws = subst (λ s. IsLaid s ws) c.in-Linear.is c.requires in
    paired-slots Linear ws (linear-paired ws laid) laid.sound _ (stretch Linear ws _ (less 4 (get_or ws 0 0 % 512)))
    ∙ ap (λ s. child_words (children_in s ws)) (sym c.in-Linear.is)

pub returns-in-Bitmap : goal.returns-in-Bitmap
returns-in-Bitmap c =
    let ws = c.args.words.now in
    let laid : IsLaid Bitmap ws = subst (λ s. IsLaid s ws) c.in-Bitmap.is c.requires in
    paired-slots Bitmap ws (bitmap-paired ws laid) laid.sound _ (stretch Bitmap ws _ (less 7 (get_or ws 0 0 % 512)))
    ∙ ap (λ s. child_words (children_in s ws)) (sym c.in-Bitmap.is)

pub returns-in-Full : goal.returns-in-Full
returns-in-Full c = full-slots c.args.words.now _ refl ∙ ap (λ s. child_words (children_in s c.args.words.now)) (sym c.in-Full.is)
