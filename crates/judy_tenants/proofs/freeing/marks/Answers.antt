use Rattle.std.proofs.Common.{◌<◌, false, not, get_or, slice_set, length-set, ap, sym, ◌∙◌, refl, subst, arith}
use Rattle.judy_tenants.specs.Changes.{stays_at}
use Rattle.judy_tenants.proofs.lemmas.Marks.{marked-first, marked-more}
use Rattle.judy_tenants.proofs.freeing.marks.Goals as goal

pub loop-place-init : goal.loop-place-init
loop-place-init c = record {
  many = refl;
  done = λ t. marked-first 128 (λ u. not (stays_at c.args.table.now c.args.later.now u)) t;
}

pub loop-place-preserved : goal.loop-place-preserved
loop-place-preserved c =
    let few = c.rows_are_sound.ensures.few in
    let test = c.loop-place-test.true in
    let many = c.loop-place.invariant.many in
    record {
      many = length-set c.loop-place.gone c.loop-place.place (not c.stays_at.result) ∙ many;
      done = λ t.
          ap (λ b. get_or (slice_set c.loop-place.gone c.loop-place.place (not b)) t false) c.stays_at.ensures
          ∙ marked-more c.loop-place.gone c.loop-place.place (λ u. not (stays_at c.args.table.now c.args.later.now u))
          (subst (λ n. c.loop-place.place < n) (sym many) (omega arith)) c.loop-place.invariant.done t;
    }
