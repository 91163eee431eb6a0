use Rattle.std.proofs.Common.{◌≡◌, ◌∙◌, ap, refl}
use Rattle.judy_model.specs.Contents.{word_order}
use Rattle.judy_model.specs.Tenant.{content_of, first_up_to}
use Rattle.judy_reference.proofs.CutLemmas.{cut_goes_on}
use Rattle.judy_reference.proofs.store.pops.cut.Goals as goal

pub loop-count-preserved : goal.loop-count-preserved
loop-count-preserved c =
    let behind : c.first_up_to-found-in-loop-count.result ≡ first_up_to (content_of c.remove.new.self c.args.name.now) c.args.x c.args.last
    = c.first_up_to-found-in-loop-count.ensures ∙ ap (λ l. first_up_to l c.args.x c.args.last) c.content-in-loop-count.ensures.value in record {
      found = behind;
      same = c.content-in-loop-count.ensures.same;
      left = cut_goes_on word_order (λ m. first_up_to m c.args.x c.args.last) refl c.loop-count.arrays c.remove.new.self c.args.name.now
          c.loop-count.count c.args.most c.loop-count.found c.first_up_to-found-in-loop-count.result (c.in-Some.index, c.in-Some.field-0-1) _
          c.loop-count.invariant.left c.in-Some.is c.loop-count-test.true c.remove.ensures behind;
    }
