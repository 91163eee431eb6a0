use Rattle.std.proofs.Common.{◌≡◌, ◌++◌, None, length, take, drop, ap, sym, ◌∙◌, subst, rules}
use Rattle.std.proofs.Math.Seq.{take-append_seam}
use Rattle.std.proofs.lemmas.List.{length-map}
use Rattle.judy_table.specs.Freezes.{frozen_row, with_freeze}
use Rattle.judy_table.specs.Seats.{AreRows}
use Rattle.judy_table.proofs.lemmas.Freezes.{freeze-rows}
use Rattle.judy_table.proofs.table.Table.thaw.Goals as goal

pub invariant_of-self : goal.invariant_of-self
invariant_of-self c =
    let rows = c.self.inside.tenants.value.items in
    let lent = c.deref_mut.result.now.items in
    let later = c.freeze.new.rows in
    let read : lent ≡ rows = search rules in
    let same : c.deref_mut-2.result.now ≡ rows = search rules in
    let is : later ≡ with_freeze c.args.name.now None rows
    = c.freeze.ensures.rows ∙ ap (with_freeze c.args.name.now None) same in
    let many : length lent ≡ length later
    = ap length read ∙ sym (ap length is ∙ length-map rows (frozen_row c.args.name.now None)) in
    let whole : take (length lent) (later ++ drop (length later) lent) ≡ later
    = ap (λ n. take n (later ++ drop (length later) lent)) many ∙ take-append_seam later (drop (length later) lent) in
    subst AreRows (sym (whole ∙ is)) (freeze-rows c.args.name.now None rows c.self.invariant)
