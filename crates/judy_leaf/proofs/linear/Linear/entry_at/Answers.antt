use Rattle.std.proofs.Common.{◌<◌, length, ap, ◌∙◌, arith}
use Rattle.std.specs.Prelude.{slice_get}
use Rattle.std.proofs.lemmas.Option.{slice_get-get_or}
use Rattle.judy_leaf.specs.Views.{of_linear}
use Rattle.judy_leaf.proofs.Founds.{entry-at}
use Rattle.judy_leaf.proofs.linear.Linear.entry_at.Goals as goal

pub returns : goal.returns
returns c =
    let inside : c.args.place < length c.keys.result.now = omega (arith, c.requires, c.keys.ensures.count) in
    entry-at (of_linear c.args.self) c.args.place _ _
    (ap (λ z. slice_get z c.args.place) c.keys.ensures.all ∙ slice_get-get_or c.keys.result.now c.args.place 0 inside)
    c.value_at.ensures
