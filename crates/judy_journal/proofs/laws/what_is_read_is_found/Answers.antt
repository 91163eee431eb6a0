use Rattle.judy_journal.proofs.Stepping.{reading_is_found}
use Rattle.judy_journal.proofs.laws.what_is_read_is_found.Goals as goal

pub returns : goal.returns
returns c = reading_is_found
