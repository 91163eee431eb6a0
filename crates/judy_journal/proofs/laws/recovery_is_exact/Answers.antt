use Rattle.judy_journal.proofs.Recovering.{recovery}
use Rattle.judy_journal.proofs.laws.recovery_is_exact.Goals as goal

pub returns : goal.returns
returns c = recovery
