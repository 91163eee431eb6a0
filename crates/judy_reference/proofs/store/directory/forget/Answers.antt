use Rattle.std.proofs.Common.{arith, not}
use Rattle.std.specs.Ordering.{eq_by_cmp}
use Rattle.std.proofs.lemmas.Grind.{common_steps}
use Rattle.std.proofs.lemmas.Fn.{filter_same}
use Rattle.judy_model.specs.Contents.{string_order}
use Rattle.judy_reference.proofs.store.directory.forget.Goals as goal

pub returns : goal.returns
returns g c = filter_same _ (λ a. not (eq_by_cmp string_order c.args.name.now a.0)) _
    (λ x b q s. (grind (arith, common_steps, s), grind (arith, common_steps, s))) _ _ c.retain.ensures.filtered
