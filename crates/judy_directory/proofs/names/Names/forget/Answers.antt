use Rattle.std.proofs.Common.{◌≡◌, ◌≤◌, ◌+◌, ℕ, cond, is_some, ap, sym, ◌∙◌, arith, length, vec_capacity}
use Rattle.std.specs.Option.{option_or}
use Rattle.std.specs.FinMap.{get, remove}
use Rattle.judy_directory.specs.declared.keyed.Keyed.{Keyed}
use Rattle.judy_directory.specs.Rooms.{look_up, others}
use Rattle.judy_directory.proofs.Rooms.{footed, joined, get-joined, both-remove, room-falls, fewer-others, either}
use Rattle.judy_directory.proofs.Lengths.{counted-remove}
use Rattle.judy_directory.proofs.Orders.{order-takes}
use Rattle.judy_directory.proofs.names.Names.forget.Goals as goal

pub invariant_of-self : goal.invariant_of-self
invariant_of-self c =
    let es = c.self.inside.table.entries in
    let fs = c.self.inside.kept.items in
    let k = c.args.spot.now in
    let n = fewer-others k fs in
    let o : cond (is_some (option_or (look_up k es) (look_up k fs))) 1 0 ≤ cond (is_some (look_up k es)) 1 0 + cond (is_some (look_up k fs)) 1
    0 = either (look_up k es) (look_up k fs) in
    let g : ◌≡◌ {A = ℕ} (cond (is_some (look_up k es)) 1 0) (cond (is_some c.remove.result) 1 0) = ap (λ x. cond (is_some x) 1 0)
    (sym c.remove.ensures.value) in
    let t : length c.remove.new.self.entries + cond (is_some c.remove.result) 1 0 ≡ length es = c.remove.ensures.len in
    let j : ◌≡◌ {A = ℕ} (cond (is_some (get (joined es fs) k)) 1 0) (cond (is_some (option_or (look_up k es) (look_up k fs))) 1 0) =
    ap (λ x. cond (is_some x) 1 0) (get-joined es fs k) in
    let l : length c.drop_kept.new.kept.items ≡ length (others k fs) = ap length c.drop_kept.ensures.items in (
      room-falls es fs k c.remove.new.self.entries c.drop_kept.new.kept.items (vec_capacity c.self.inside.kept)
          (vec_capacity c.drop_kept.new.kept) c.self.invariant.0
          c.drop_kept.ensures.capacity (omega (arith, n, l, c.self.invariant.0.within))
          (ap (joined c.remove.new.self.entries) c.drop_kept.ensures.items ∙ both-remove es fs k c.remove.new.self.entries c.remove.ensures.updates.0)
          (omega (arith, n, o, g, t, j, l)),
      counted-remove c.self.inside.bytes (joined es fs) c.self.invariant.1 k c.or-place.result
          (joined c.remove.new.self.entries c.drop_kept.new.kept.items)
          (ap (joined c.remove.new.self.entries) c.drop_kept.ensures.items ∙ both-remove es fs k c.remove.new.self.entries c.remove.ensures.updates.0)
          (get-joined es fs k ∙ ap (λ x. option_or x (look_up k fs)) (sym c.remove.ensures.value)
          ∙ ap (option_or c.remove.result) (sym (c.find_kept.ensures ∙ ap (look_up k) c.as_slice.ensures.value)) ∙ sym c.or-place.ensures)
          c.bytes_lost.result c.bytes_lost.type_inv c.bytes_lost.ensures,
      order-takes es c.remove.new.self.entries c.self.inside.order c.self.invariant.2 k c.remove-2.new.self c.remove-2.ensures.updates.0 c.remove.ensures.updates.0,
    )

pub returns-clause-places : goal.returns-clause-places
returns-clause-places c =
    ap (joined c.remove.new.self.entries) c.drop_kept.ensures.items
    ∙ both-remove c.self.inside.table.entries c.self.inside.kept.items c.args.spot.now c.remove.new.self.entries c.remove.ensures.updates.0
    ∙ ap (λ m. remove m c.args.spot.now) (ap (λ v. v.0) c.self.view_is)

-- the start of the hashes and the room are unchanged
pub returns-clause-footing : goal.returns-clause-footing
returns-clause-footing c = footed (ap (λ (k : Keyed). k.start.state) c.remove.ensures.hasher) c.drop_kept.ensures.capacity ∙ ap (λ v. v.1) c.self.view_is
