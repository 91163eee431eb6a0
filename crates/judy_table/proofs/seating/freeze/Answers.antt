use Rattle.std.proofs.Common.{◌≡◌, ◌<◌, ◌+◌, ◌||◌, ◌∙◌, suc, ap, sym, length, take, slice_set, get_or, arith, rules}
use Rattle.judy_table.specs.Freezes.{frozen_row, has_tenant_of, is_tenant_of}
use Rattle.judy_table.proofs.Halfway.{halfway, halfway-next, halfway-more, any-more}
use Rattle.judy_table.proofs.seating.freeze.Goals as goal

pub loop-row-preserved : goal.loop-row-preserved
loop-row-preserved c =
    let i = c.loop-row.row-index in
    let xs = c.args.rows.now in
    let f = frozen_row c.args.name.now c.args.frozen in
    let d = c.row-item.result in
    let inside : i < length xs = omega arith in
    let next : suc i ≡ i + 1 = omega arith in
    let item : get_or c.loop-row.rows i d ≡ get_or xs i d = ap (λ ys. get_or ys i d) c.loop-row.invariant.0 ∙ halfway-next f i xs d inside in
    let row : c.freeze-here.new.self ≡ f (get_or xs i d) = c.freeze-here.ensures.row ∙ ap f item in
    let here : c.freeze-here.result ≡ is_tenant_of c.args.name.now (get_or xs i d) = c.freeze-here.ensures.known ∙ ap (is_tenant_of c.args.name.now) item in
    let either : c.if-known.known ≡ (c.loop-row.known || c.freeze-here.result) = search rules in (
      ap (λ ys. slice_set ys i c.freeze-here.new.self) c.loop-row.invariant.0 ∙ ap (slice_set (halfway f i xs) i) row ∙ halfway-more f i xs d inside
          ∙ ap (λ n. halfway f n xs) next,
      either ∙ ap (λ b. b || c.freeze-here.result) c.loop-row.invariant.1 ∙ ap (λ b. has_tenant_of c.args.name.now (take i xs) || b) here
          ∙ sym (any-more (is_tenant_of c.args.name.now) i xs d inside) ∙ ap (λ n. has_tenant_of c.args.name.now (take n xs)) next,
    )
