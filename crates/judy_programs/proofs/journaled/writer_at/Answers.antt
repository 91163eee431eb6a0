use Rattle.std.proofs.Common.{◌≡◌, inr, refl, subst, ◌∙◌}
use Rattle.judy_journal.specs.Writes.{Writing}
use Rattle.judy_programs.specs.Journaled.{HasFailedNext, HasOpenedNext, writer_there}
use Rattle.judy_programs.proofs.journaled.writer_at.Goals as goal

pub returns-clause-made : goal.returns-clause-made
returns-clause-made g c =
    let there : c.deref_mut.result.now ≡ writer_there c.args.at = c.deref_mut.ensures.value ∙ c.in-Ok.ensures.ok ∙ c.new.ensures in
    let P : Writing → Type 0 = λ old. HasOpenedNext old c.begin_next.new.writer
    (g.H.Network.log c.args.system.now) (g.H.Network.log c.begin_next.new.system) in
    inr (c.if-not-at.false, subst P there (c.begin_next.ensures.begun c.if-not-begin_next.false))

pub returns-then-not-begin_next-clause-none : goal.returns-then-not-begin_next-clause-none
returns-then-not-begin_next-clause-none g c =
    let there : c.deref_mut.result.now ≡ writer_there c.args.at = c.deref_mut.ensures.value ∙ c.in-Ok.ensures.ok ∙ c.new.ensures in
    let P : Writing → Type 0 = λ old. HasFailedNext old (g.H.Network.log c.args.system.now) (g.H.Network.log c.begin_next.new.system) in
    inr (refl, c.if-not-at.false, subst P there (c.begin_next.ensures.failed c.if-not-begin_next.true))
