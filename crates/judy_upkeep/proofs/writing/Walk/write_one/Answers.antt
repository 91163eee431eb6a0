use Rattle.std.proofs.Common.{◌∙◌, ap, subst}
use Rattle.judy_upkeep.specs.Lines.{insertion_text}
use Rattle.judy_upkeep.specs.Output.{Adds}
use Rattle.judy_upkeep.proofs.Asked.{if_ok}
use Rattle.judy_upkeep.proofs.writing.Walk.write_one.Goals as goal

pub returns-clause-added : goal.returns-clause-added
returns-clause-added g c =
    if_ok c.step.result
    (subst (λ v. Adds v (insertion_text c.args.array.now c.args.self.now.key.items c.args.value) c.args.output.now c.add.new.self)
    c.as_bytes.ensures.value
    (subst (λ v. Adds c.as_bytes.result.now v c.args.output.now c.add.new.self)
    (c.as_slice-2.ensures.value ∙ c.write_insertion.ensures ∙ ap (λ k. insertion_text c.args.array.now k c.args.value) c.as_slice.ensures.value)
    c.in_ok-add.ensures))
