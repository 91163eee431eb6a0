use Rattle.judy_server.proofs.Restoring.{crash-restores}
use Rattle.judy_server.proofs.laws.crashes_lose_nothing.Goals as goal

pub returns : goal.returns
returns c = crash-restores c.records_tell_all.ensures c.journal_is_exact.ensures c.stories_are_written.ensures c.answers_are_kept.ensures c.replies_are_kept.ensures
