use Rattle.std.proofs.Common.{◌≡◌, ◌≤◌, ap₂, sym, ◌∙◌, subst, length, rules}
use Rattle.judy_table.specs.declared.table.TheConstants.{ROWS_LIMIT}
use Rattle.judy_table.specs.Seats.{seated, AreRows}
use Rattle.judy_table.proofs.lemmas.Seats.{seated-rows}
use Rattle.judy_table.proofs.table.Table.seat.Goals as goal

pub seat-requires : goal.seat-requires
seat-requires c =
    let rows = c.rows.inside.tenants.value.items in
    let table = c.table.inside.tenants.value.items in
    let read : c.deref-2.result.now ≡ rows = search rules in
    let other : c.deref-4.result.now ≡ table = search rules in
    subst (λ ts. length ts ≤ ROWS_LIMIT) (sym (ap₂ seated read other)) (seated-rows rows table c.rows.invariant c.table.invariant).few

pub invariant_of-self : goal.invariant_of-self
invariant_of-self c =
    let rows = c.rows.inside.tenants.value.items in
    let table = c.table.inside.tenants.value.items in
    let read : c.deref-2.result.now ≡ rows = search rules in
    let other : c.deref-4.result.now ≡ table = search rules in
    subst AreRows (sym (c.seat.ensures ∙ ap₂ seated read other)) (seated-rows rows table c.rows.invariant c.table.invariant)
