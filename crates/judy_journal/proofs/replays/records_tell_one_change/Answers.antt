use Rattle.judy_journal.proofs.lemmas.ReplayLemmas.{records_tell_one_change}
use Rattle.judy_journal.proofs.replays.records_tell_one_change.Goals as goal

pub returns : goal.returns
returns c = records_tell_one_change
