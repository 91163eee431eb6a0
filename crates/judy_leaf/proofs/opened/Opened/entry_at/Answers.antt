use Rattle.std.proofs.Common.{◌<◌, length, ap, subst, ◌∙◌, arith}
use Rattle.std.specs.Prelude.{slice_get}
use Rattle.judy_leaf.specs.Views.{of_leaf}
use Rattle.judy_leaf.proofs.Gathered.{at-place}
use Rattle.judy_leaf.proofs.LinearLaws.{linear-length}
use Rattle.judy_leaf.proofs.BitmapLaws.{bits-length}
use Rattle.judy_leaf.proofs.opened.Opened.entry_at.Goals as goal

pub unreachable-requires : goal.unreachable-requires
unreachable-requires c = let h = subst (λ o. c.args.place < length (of_leaf o)) c.in-Nothing.is c.requires in omega (arith, h)

pub entry_at-requires : goal.entry_at-requires
entry_at-requires c =
    let h = subst (λ o. c.args.place < length (of_leaf o)) c.in-Linear.is c.requires in
    let n = linear-length c.in-Linear.leaf.values c.in-Linear.leaf.words.now c.in-Linear.leaf.sound in
    omega (arith, h, n)

pub returns-in-Linear : goal.returns-in-Linear
returns-in-Linear c = at-place (of_leaf c.args.self) c.args.place _ (ap (λ o. slice_get (of_leaf o) c.args.place) c.in-Linear.is ∙ c.entry_at.ensures)

pub entry_at-requires-in-Bits : goal.entry_at-requires-in-Bits
entry_at-requires-in-Bits c =
    let h = subst (λ o. c.args.place < length (of_leaf o)) c.in-Bits.is c.requires in
    let n = bits-length c.in-Bits.leaf.values c.in-Bits.leaf.words.now c.in-Bits.leaf.sound in
    omega (arith, h, n)

pub returns-in-Bits : goal.returns-in-Bits
returns-in-Bits c = at-place (of_leaf c.args.self) c.args.place _ (ap (λ o. slice_get (of_leaf o) c.args.place) c.in-Bits.is ∙ c.entry_at-in-Bits.ensures)
