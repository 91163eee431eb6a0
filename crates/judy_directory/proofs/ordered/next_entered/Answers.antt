use Rattle.std.proofs.Common.{Some, sym, ◌∙◌, subst}
use Rattle.judy_directory.specs.Order.{is_on, IsLeast}
use Rattle.judy_directory.specs.Rooms.{look_up}
use Rattle.judy_directory.proofs.Orders.{range-none, range-least}
use Rattle.judy_directory.proofs.ordered.next_entered.Goals as goal

pub returns-in_default : goal.returns-in_default
returns-in_default c =
    range-none c.args.itself c.args.start.now c.args.table.now.entries c.args.order.now c.requires c.range-names.result _ c.bound_from.ensures
    (c.range-names.ensures.in_range tt) c.in_default.ensures.steps.0

pub returns : goal.returns
returns c =
    let es = c.args.table.now.entries in
    subst (λ k. IsLeast (is_on c.args.itself c.args.start.now) (λ q. look_up q es) (Some (k, c.in-Some-copied.place))) (sym c.copied-2.ensures)
    (range-least c.args.itself c.args.start.now es c.args.order.now c.requires c.range-names.result _ c.bound_from.ensures
    (c.range-names.ensures.in_range tt) c.in-Some.spot.now c.next.new.self c.in-Some-copied.place c.in-Some.ensures.steps
    (sym c.get.ensures.value ∙ sym c.copied.ensures ∙ c.in-Some-copied.is))
