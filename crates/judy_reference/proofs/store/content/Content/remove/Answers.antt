use Rattle.std.proofs.Common.{arith, not}
use Rattle.std.specs.Ordering.{eq_by_cmp}
use Rattle.std.proofs.lemmas.Grind.{common_steps}
use Rattle.std.proofs.lemmas.Fn.{filter_same}
use Rattle.judy_reference.proofs.store.content.Content.remove.Goals as goal

pub returns : goal.returns
returns g c = rw (← c.self.view_is) (filter_same _ (λ e. not (eq_by_cmp g.K.Ord.cmp c.args.key.now e.0)) _
    (λ x b q s. (grind (arith, common_steps, s), grind (arith, common_steps, s))) _ _ c.retain.ensures.filtered)
