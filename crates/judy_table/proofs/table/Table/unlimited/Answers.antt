use Rattle.std.proofs.Common.{◌≡◌, ap, sym, ◌∙◌, subst, rules}
use Rattle.judy_table.specs.Seats.{AreRows}
use Rattle.judy_table.specs.Unlimited.{unlimited}
use Rattle.judy_table.proofs.lemmas.Unlimited.{unlimited-rows}
use Rattle.judy_table.proofs.table.Table.unlimited.Goals as goal

pub invariant_of-result : goal.invariant_of-result
invariant_of-result c =
    let rows = c.self.inside.tenants.value.items in
    let read : c.deref-2.result.now ≡ rows = search rules in
    subst AreRows (sym (c.unlimited.ensures ∙ ap unlimited read)) (unlimited-rows rows c.self.invariant)
