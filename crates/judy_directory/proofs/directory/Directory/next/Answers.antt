use Rattle.std.proofs.Common.{Some, ap, sym, ◌∙◌}
use Rattle.std.specs.Prelude.{unwrap_or}
use Rattle.judy_directory.specs.Order.{place_on}
use Rattle.judy_directory.proofs.Least.{recent-least, recent-none}
use Rattle.judy_directory.proofs.directory.Directory.next.Goals as goal

pub returns-in_default : goal.returns-in_default
returns-in_default c =
    recent-none c.args.itself c.args.spot.now c.self.inside.recent c.self.inside.names.0 c.self.invariant (sym c.next.ensures ∙ c.in_default.is)
    ∙ ap (λ m. place_on c.args.itself m c.args.spot.now) (ap (λ v. v.0) c.self.view_is)

pub returns : goal.returns
returns c =
    let k = c.in-Some.found in
    let p = c.in-Some.place in
    ap (λ x. Some (k, x)) (c.unwrap_or-place.ensures ∙ ap (λ o. unwrap_or o p) c.find_recent.ensures)
    ∙ recent-least c.args.itself c.args.spot.now c.self.inside.recent c.self.inside.names.0 c.self.invariant (k, p) (sym c.next.ensures ∙ c.in-Some.is)
    ∙ ap (λ m. place_on c.args.itself m c.args.spot.now) (ap (λ v. v.0) c.self.view_is)
