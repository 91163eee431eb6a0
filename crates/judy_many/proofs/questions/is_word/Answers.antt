use Rattle.std.proofs.Common.{◌∙◌}
use Rattle.std.specs.Cmp.Lexicographic.{texts_ties}
use Rattle.judy_many.proofs.questions.is_word.Goals as goal

pub returns : goal.returns
returns c = c.eq.ensures ∙ texts_ties c.args.line.now c.args.word.now
