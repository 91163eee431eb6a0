use Rattle.std.proofs.Common.{Some, None, cond, ap, sym, ◌∙◌, arith}
use Rattle.judy_model.specs.Gaps.{first_empty}
use Rattle.judy_model.specs.Contents.{max_word}
use Rattle.judy_model.proofs.lemmas.WordLemmas.{le-test}
use Rattle.judy_leaf.specs.Views.{of_leaf}
use Rattle.judy_leaf.proofs.leaf.first_empty.Goals as goal

pub returns-in-Nothing : goal.returns-in-Nothing
returns-in-Nothing c = sym (ap (λ t. cond t (Some c.args.x) None) (le-test c.args.x max_word (omega (arith, c.ranges.x.fits))))
    ∙ ap (λ l. first_empty l c.args.x) (ap of_leaf (sym c.in-Nothing.is) ∙ c.open.ensures)

pub returns-in-Linear : goal.returns-in-Linear
returns-in-Linear c = c.first_empty.ensures ∙ ap (λ l. first_empty l c.args.x) (ap of_leaf (sym c.in-Linear.is) ∙ c.open.ensures)

pub returns-in-Bits : goal.returns-in-Bits
returns-in-Bits c = c.first_empty-in-Bits.ensures ∙ ap (λ l. first_empty l c.args.x) (ap of_leaf (sym c.in-Bits.is) ∙ c.open.ensures)
