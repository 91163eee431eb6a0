use Rattle.std.proofs.Common.{◌<◌, false, get_or, length-set, ◌∙◌, refl, subst, arith, sym}
use Rattle.judy_tenants.proofs.lemmas.Marks.{marked-first}
use Rattle.judy_server.specs.Replays.{marks_of}
use Rattle.judy_server.proofs.Leaving.{marks-all, marks-next}
use Rattle.judy_server.proofs.records.marks_of.Goals as goal

pub loop-place-init : goal.loop-place-init
loop-place-init g c = record {
  many = refl;
  done = λ t. marked-first 128 (λ u. get_or (marks_of c.args.left.now c.args.service.now.tenants) u false) t;
}

pub loop-place-preserved : goal.loop-place-preserved
loop-place-preserved g c =
    let few = c.rows_are_sound.ensures.few in
    let test = c.loop-place-test.true in
    let end = c.tenants-place-end.ensures in
    let many = c.loop-place.invariant.many in
    record {
      many = length-set c.loop-place.marks c.loop-place.place c.has.result ∙ many;
      done = marks-next c.args.left.now c.args.service.now.tenants c.loop-place.marks c.loop-place.place c.name.result.now c.has.result
          (rw c.tenant.ensures at c.name.ensures) c.has.ensures (subst (λ n. c.loop-place.place < n) (sym many) (omega arith))
          c.loop-place.invariant.done;
    }

pub returns : goal.returns
returns g c =
    let end = c.tenants-place-end.ensures in
    let test = c.loop-place-test.false in
    marks-all c.args.left.now c.args.service.now.tenants c.loop-place.marks c.loop-place.place (omega (arith, end, test)) c.loop-place.invariant.done
