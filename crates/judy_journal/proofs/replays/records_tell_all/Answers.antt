use Rattle.judy_journal.proofs.lemmas.ReplayLemmas.{records_tell_all}
use Rattle.judy_journal.proofs.replays.records_tell_all.Goals as goal

pub returns : goal.returns
returns c = records_tell_all c.full_is_for_new_entries.ensures c.looks_keep_all.ensures c.queries_keep_all.ensures c.a_tenant_alone_has_memory.ensures c.unchanged_are_told.ensures
