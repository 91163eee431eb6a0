use Rattle.std.proofs.Common.{◌∙◌, [], ap, refl, sym, subst}
use Rattle.judy_many.specs.Changes.{AreClosed}
use Rattle.judy_many.specs.Questions.{read_stage}
use Rattle.judy_many.proofs.Living.{no_log}
use Rattle.judy_many.proofs.reloads.close_after.Goals as goal

pub returns-then-not-changed-clause-gone : goal.returns-then-not-changed-clause-gone
returns-then-not-changed-clause-gone g c = ([], no_log _, subst (λ b. AreClosed b []) (sym c.if-not-changed.true) refl)

pub returns-clause-crowd : goal.returns-clause-crowd
returns-clause-crowd g c = λ limits first start past e asked h. c.close_gone.ensures.crowd limits first start past e (asked ∙ ap read_stage c.if-not-changed.false) h

pub returns-clause-gone : goal.returns-clause-gone
returns-clause-gone g c = let (gone, log, are) = c.close_gone.ensures.gone in (gone, log, subst (λ b. AreClosed b gone) (sym c.if-not-changed.false) are)
