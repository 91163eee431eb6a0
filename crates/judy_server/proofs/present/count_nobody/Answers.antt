use Rattle.std.proofs.Common.{◌≡◌, ◌≤◌, ◌+◌, ◌∙◌, ap, arith, map, sym, take}
use Rattle.std.specs.Prelude.{count_by, option_map}
use Rattle.judy_table.specs.Shown.{seen}
use Rattle.judy_server.specs.Present.{is_nobody}
use Rattle.judy_server.proofs.Counting.{counted_all, counted_no, counted_none, counted_yes}
use Rattle.judy_server.proofs.present.count_nobody.Goals.{then-is_nobody, else-is_nobody}
use Rattle.judy_server.proofs.present.count_nobody.Goals as goal

pub loop-at-init : goal.loop-at-init
loop-at-init c = record { counted = counted_none is_nobody (option_map seen) c.args.speakers.now; few = omega arith }

pub loop-at-preserved : goal.loop-at-preserved
loop-at-preserved c = record { counted = counted; few = few }
  where
    counted : c.if-is_nobody.count ≡ count_by is_nobody (take (c.loop-at.at + 1) (map (option_map seen) c.args.speakers.now))
    counted = elim c.if-is_nobody.branch [
      | then-is_nobody w ↦ w.count-is ∙ ap (λ n. n + 1) c.loop-at.invariant.counted
          ∙ sym (counted_yes is_nobody (option_map seen) c.args.speakers.now c.loop-at.at c.index-speakers-at.result (omega arith) c.index-speakers-at.is (sym c.is_nobody.ensures ∙ w.if-is_nobody.true))
      | else-is_nobody w ↦ w.count-is ∙ c.loop-at.invariant.counted
          ∙ sym (counted_no is_nobody (option_map seen) c.args.speakers.now c.loop-at.at c.index-speakers-at.result (omega arith) c.index-speakers-at.is (sym c.is_nobody.ensures ∙ w.if-is_nobody.false))
    ]

    few : c.if-is_nobody.count ≤ c.loop-at.at + 1
    few = let e = c.loop-at.invariant.few in elim c.if-is_nobody.branch [
      | then-is_nobody w ↦ let n = w.count-is in omega (arith, n, e)
      | else-is_nobody w ↦ let n = w.count-is in omega (arith, n, e)
    ]

pub returns : goal.returns
returns c = c.loop-at.invariant.counted ∙ counted_all is_nobody (option_map seen) c.args.speakers.now c.loop-at.at (omega arith)
