use Rattle.judy_journal.proofs.Standing.{recovered_is_whole}
use Rattle.judy_journal.proofs.laws.what_is_recovered_is_whole.Goals as goal

pub returns : goal.returns
returns c = recovered_is_whole
