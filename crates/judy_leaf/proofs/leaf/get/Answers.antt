use Rattle.std.proofs.Common.{ap, sym, ◌∙◌}
use Rattle.judy_model.specs.Contents.{word_order, value_of}
use Rattle.judy_leaf.specs.Views.{of_leaf}
use Rattle.judy_leaf.proofs.leaf.get.Goals as goal

pub returns-in-Nothing : goal.returns-in-Nothing
returns-in-Nothing c = ap (λ l. value_of word_order l c.args.key) (ap of_leaf (sym c.in-Nothing.is) ∙ c.open.ensures)

pub returns-in-Linear : goal.returns-in-Linear
returns-in-Linear c = c.get.ensures ∙ ap (λ l. value_of word_order l c.args.key) (ap of_leaf (sym c.in-Linear.is) ∙ c.open.ensures)

pub returns-in-Bits : goal.returns-in-Bits
returns-in-Bits c = c.get-in-Bits.ensures ∙ ap (λ l. value_of word_order l c.args.key) (ap of_leaf (sym c.in-Bits.is) ∙ c.open.ensures)
