use Rattle.std.proofs.Common.{arith, append_assoc}
use Rattle.std.proofs.lemmas.Grind.{common_steps}
use Rattle.judy_journal.specs.Journals.{numbered}
use Rattle.judy_journal.proofs.format.numbered_line.Goals as goal

pub returns-clause-text : goal.returns-clause-text
unfolding numbered
returns-clause-text c = grind (arith, common_steps, append_assoc, c.put.ensures, c.put-2.ensures, c.put-3.ensures, c.put-4.ensures, c.as_bytes.ensures.value, c.format.ensures.text, c.new-line.ensures)
