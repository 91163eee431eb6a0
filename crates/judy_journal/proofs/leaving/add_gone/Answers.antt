use Rattle.std.proofs.Common.{◌++◌, ◌∷◌, ◌∙◌, ap, append_assoc, []}
use Rattle.judy_journal.specs.Leaving.{gone_request}
use Rattle.judy_journal.proofs.lemmas.LeavingLemmas.{gone_pushed}
use Rattle.judy_journal.proofs.leaving.add_gone.Goals as goal

pub returns : goal.returns
returns c is others before =
    c.put-2.ensures
    ∙ ap (λ x. x ++ c.args.name.now) (c.put.ensures ∙ ap (λ x. x ++ 32 ∷ []) before)
    ∙ append_assoc (gone_request others) (32 ∷ []) c.args.name.now
    ∙ gone_pushed others c.args.name.now
