use Rattle.judy_journal.proofs.Gathering.{recovered_is_found}
use Rattle.judy_journal.proofs.laws.what_is_recovered_is_found.Goals as goal

pub returns : goal.returns
returns c = recovered_is_found
