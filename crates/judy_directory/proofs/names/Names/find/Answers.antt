use Rattle.std.proofs.Common.{ap, sym, ◌∙◌}
use Rattle.std.specs.FinMap as map
use Rattle.std.specs.Option.{option_or}
use Rattle.judy_directory.specs.Rooms.{look_up}
use Rattle.judy_directory.proofs.Rooms.{get-joined}
use Rattle.judy_directory.proofs.names.Names.find.Goals as goal

pub returns-in-Some : goal.returns-in-Some
returns-in-Some c =
    ap (λ o. option_or o (look_up c.args.spot.now c.self.inside.kept.items)) (sym c.in-Some.is ∙ c.copied.ensures ∙ c.get.ensures.value)
    ∙ sym (get-joined c.self.inside.table.entries c.self.inside.kept.items c.args.spot.now)
    ∙ ap (λ m. map.get m c.args.spot.now) (ap (λ v. v.0) c.self.view_is)

pub returns : goal.returns
returns c =
    c.find_kept.ensures ∙ ap (look_up c.args.spot.now) c.as_slice.ensures.value
    ∙ ap (λ o. option_or o (look_up c.args.spot.now c.self.inside.kept.items)) (sym c.in_default.is ∙ c.copied.ensures ∙ c.get.ensures.value)
    ∙ sym (get-joined c.self.inside.table.entries c.self.inside.kept.items c.args.spot.now)
    ∙ ap (λ m. map.get m c.args.spot.now) (ap (λ v. v.0) c.self.view_is)
