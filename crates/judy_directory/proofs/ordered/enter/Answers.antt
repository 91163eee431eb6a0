use Rattle.std.proofs.Common.{sym, subst}
use Rattle.judy_directory.proofs.Orders.{on_ok, on_err, HasToo, GetsPlace, order-adds, order-undone}
use Rattle.judy_directory.proofs.ordered.enter.Goals as goal

pub returns-then-is_ok-clause-order : goal.returns-then-is_ok-clause-order
returns-then-is_ok-clause-order c =
    let es = c.args.table.now.entries in
    let es' = c.insert-2.new.self.entries in
    let s = c.args.order.now in
    order-adds es es' s c.requires.order c.args.spot.now c.nothing.result c.insert.new.self
    (subst (HasToo s c.insert.new.self) c.copied.ensures (on_ok c.insert.result (sym c.if-is_err.ensures.value) c.insert.ensures.updates).0)
    (subst (GetsPlace es es' c.nothing.result) c.copied-2.ensures (on_ok c.insert-2.result c.if-is_ok.ensures.negation c.insert-2.ensures.updates).0)

pub returns-clause-order : goal.returns-clause-order
returns-clause-order c =
    let es = c.args.table.now.entries in
    let s = c.args.order.now in
    order-undone es c.insert-2.new.self.entries s c.requires.order c.args.spot.now c.insert.new.self c.remove.new.self
    c.requires.absent (on_err c.insert-2.result c.if-is_ok.ensures.negation c.insert-2.ensures.err)
    (subst (HasToo s c.insert.new.self) c.copied.ensures (on_ok c.insert.result (sym c.if-is_err.ensures.value) c.insert.ensures.updates).0)
    c.remove.ensures.updates.0
