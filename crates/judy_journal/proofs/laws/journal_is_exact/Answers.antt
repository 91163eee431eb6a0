use Rattle.judy_journal.proofs.Crashing.{journal_exact}
use Rattle.judy_journal.proofs.laws.journal_is_exact.Goals as goal

pub returns : goal.returns
returns c = journal_exact
