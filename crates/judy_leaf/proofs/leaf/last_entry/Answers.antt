use Rattle.std.proofs.Common.{ap, sym, ◌∙◌}
use Rattle.judy_model.specs.Contents.{word_order, last}
use Rattle.judy_leaf.specs.Views.{of_leaf}
use Rattle.judy_leaf.proofs.leaf.last_entry.Goals as goal

pub returns-in-Nothing : goal.returns-in-Nothing
returns-in-Nothing c = ap (λ l. last word_order l c.args.x) (ap of_leaf (sym c.in-Nothing.is) ∙ c.open.ensures)

pub returns-in-Linear : goal.returns-in-Linear
returns-in-Linear c = c.last_entry.ensures ∙ ap (λ l. last word_order l c.args.x) (ap of_leaf (sym c.in-Linear.is) ∙ c.open.ensures)

pub returns-in-Bits : goal.returns-in-Bits
returns-in-Bits c = c.last_entry-in-Bits.ensures ∙ ap (λ l. last word_order l c.args.x) (ap of_leaf (sym c.in-Bits.is) ∙ c.open.ensures)
