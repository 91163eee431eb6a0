use Rattle.std.proofs.Common.{◌∷◌, ◌/◌, ◌%◌, ap, sym, ◌∙◌, refl}
use Rattle.judy_model.specs.Commands.{kind_with}
use Rattle.judy_directory.proofs.Owned.{owner-whole}
use Rattle.judy_directory.proofs.spot.Spot.tenant.Goals as goal

pub returns : goal.returns
returns c =
    let owner = c.self.inside.owner in
    let name = c.self.inside.name in
    (kind_with (owner % 4), name, sym c.self.view_is ∙ ap (λ o. o ∷ name) (owner-whole (owner / 4) owner refl))
