use Rattle.judy_journal.proofs.lemmas.ReplayLemmas.{replays_are_exact}
use Rattle.judy_journal.proofs.replays.replays_are_exact.Goals as goal

pub returns : goal.returns
returns c = replays_are_exact c.full_is_for_new_entries.ensures c.looks_keep_all.ensures c.queries_keep_all.ensures c.a_tenant_alone_has_memory.ensures c.unchanged_are_told.ensures
