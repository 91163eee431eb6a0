use Rattle.std.proofs.Common.{◌≡◌, ap, ◌∙◌, arith, length, vec_capacity}
use Rattle.judy_directory.proofs.Rooms.{joined, front-reordered, room-reserved}
use Rattle.judy_directory.proofs.Lengths.{counted-same}
use Rattle.judy_directory.proofs.Orders.{order-same}
use Rattle.judy_directory.proofs.names.Names.reserve.Goals as goal

pub invariant_of-self-2 : goal.invariant_of-self-2
invariant_of-self-2 c =
    let es = c.self.inside.table.entries in
    let fs = c.self.inside.kept.items in
    let es' = c.reserve.new.self.entries in
    let fs' = c.reserve_kept.new.kept.items in
    let n : length es' ≡ length es = c.reserve.ensures.entries.1 in
    let l : length fs' ≡ length fs = ap length c.reserve_kept.ensures.items in (
      room-reserved es fs es' fs' (vec_capacity c.self.inside.kept) (vec_capacity c.reserve_kept.new.kept) c.self.invariant.0
          c.reserve_kept.ensures.rises (ap (joined es') c.reserve_kept.ensures.items ∙ front-reordered es fs es' c.reserve.ensures.entries.2)
          (omega (arith, n, l)) l,
      counted-same c.self.inside.bytes (joined es fs) c.self.invariant.1 (joined es' fs')
          (ap (joined es') c.reserve_kept.ensures.items ∙ front-reordered es fs es' c.reserve.ensures.entries.2),
      order-same es es' c.self.inside.order c.self.invariant.2 c.reserve.ensures.entries.2,
    )

pub returns-clause-places : goal.returns-clause-places
returns-clause-places c =
    ap (joined c.reserve.new.self.entries) c.reserve_kept.ensures.items
    ∙ front-reordered c.self.inside.table.entries c.self.inside.kept.items c.reserve.new.self.entries c.reserve.ensures.entries.2
    ∙ ap (λ v. v.0) c.self.view_is
