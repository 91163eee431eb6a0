use Rattle.std.proofs.Common.{◌≡◌, ◌≤◌, ◌+◌, ◌∙◌, ap, arith, map, sym, take}
use Rattle.std.specs.Prelude.{count_by, option_map}
use Rattle.judy_table.specs.Shown.{seen}
use Rattle.judy_server.specs.Present.{speaks_for}
use Rattle.judy_server.proofs.Counting.{counted_all, counted_no, counted_none, counted_yes}
use Rattle.judy_server.proofs.present.count_tenant.Goals.{then-speaks_for, else-speaks_for}
use Rattle.judy_server.proofs.present.count_tenant.Goals as goal

pub loop-at-init : goal.loop-at-init
loop-at-init c = record { counted = counted_none (speaks_for c.args.tenant) (option_map seen) c.args.speakers.now; few = omega arith }

pub loop-at-preserved : goal.loop-at-preserved
loop-at-preserved c = record { counted = counted; few = few }
  where
    counted : c.if-speaks_for.count ≡ count_by (speaks_for c.args.tenant) (take (c.loop-at.at + 1) (map (option_map seen) c.args.speakers.now))
    counted = elim c.if-speaks_for.branch [
      | then-speaks_for w ↦ w.count-is ∙ ap (λ n. n + 1) c.loop-at.invariant.counted
          ∙ sym (counted_yes (speaks_for c.args.tenant) (option_map seen) c.args.speakers.now c.loop-at.at c.index-speakers-at.result (omega arith) c.index-speakers-at.is (sym c.speaks_for.ensures ∙ w.if-speaks_for.true))
      | else-speaks_for w ↦ w.count-is ∙ c.loop-at.invariant.counted
          ∙ sym (counted_no (speaks_for c.args.tenant) (option_map seen) c.args.speakers.now c.loop-at.at c.index-speakers-at.result (omega arith) c.index-speakers-at.is (sym c.speaks_for.ensures ∙ w.if-speaks_for.false))
    ]

    few : c.if-speaks_for.count ≤ c.loop-at.at + 1
    few = let e = c.loop-at.invariant.few in elim c.if-speaks_for.branch [
      | then-speaks_for w ↦ let n = w.count-is in omega (arith, n, e)
      | else-speaks_for w ↦ let n = w.count-is in omega (arith, n, e)
    ]

pub returns : goal.returns
returns c = c.loop-at.invariant.counted ∙ counted_all (speaks_for c.args.tenant) (option_map seen) c.args.speakers.now c.loop-at.at (omega arith)
