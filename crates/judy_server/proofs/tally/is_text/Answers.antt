use Rattle.std.proofs.Common.{◌∙◌}
use Rattle.std.specs.Cmp.Lexicographic.{texts_ties}
use Rattle.judy_server.proofs.tally.is_text.Goals as goal

pub returns : goal.returns
returns c = c.eq.ensures ∙ texts_ties c.args.answer.now c.args.text.now
