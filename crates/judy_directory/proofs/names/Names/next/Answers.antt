use Rattle.std.proofs.Common.{ap, ◌∙◌, subst}
use Rattle.std.specs.Option.{option_or}
use Rattle.std.specs.FinMap.{get}
use Rattle.judy_directory.specs.Order.{is_on, place_on, lesser, IsLeast}
use Rattle.judy_directory.specs.Rooms.{look_up}
use Rattle.judy_directory.proofs.Least.{least-same, lesser-least, least-place}
use Rattle.judy_directory.proofs.Rooms.{joined, get-joined}
use Rattle.judy_directory.proofs.names.Names.next.Goals as goal

pub returns : goal.returns
returns c =
    let es = c.self.inside.table.entries in
    let fs = c.self.inside.kept.items in
    let test = is_on c.args.itself c.args.spot.now in
    let a = c.next_entered-entered.result in
    let b = c.next_kept.result in
    c.lesser.ensures
    ∙ least-place c.args.itself c.args.spot.now (joined es fs) (lesser a b)
    (least-same test (λ q. option_or (look_up q es) (look_up q fs)) (get (joined es fs)) (λ q t. get-joined es fs q) (lesser a b)
    (lesser-least test (λ q. look_up q es) (λ q. look_up q fs) a b c.next_entered-entered.ensures
    (subst (λ l. IsLeast test (λ q. look_up q l) b) c.as_slice.ensures.value c.next_kept.ensures)))
    ∙ ap (λ m. place_on c.args.itself m c.args.spot.now) (ap (λ v. v.0) c.self.view_is)
