use Rattle.std.proofs.Common.{ap, sym, ◌∙◌}
use Rattle.std.specs.FinMap as map
use Rattle.std.specs.Prelude.{unwrap_or}
use Rattle.judy_directory.specs.Places.{nothing}
use Rattle.judy_directory.proofs.RecentPlaces.{insert-same}
use Rattle.judy_directory.proofs.names.Names.place.Goals as goal

pub returns-in-Some-clause-place : goal.returns-in-Some-clause-place
returns-in-Some-clause-place c =
    let e = sym c.find.ensures ∙ c.in-Some.is in
    insert-same c.args.self.now.0 c.args.spot.now c.in-Some.place e
    ∙ ap (λ o. map.insert c.args.self.now.0 c.args.spot.now (unwrap_or o nothing)) (sym e)
