use Rattle.judy_server.proofs.lemmas.Runs.{keeps-promises}
use Rattle.judy_server.proofs.laws.every_run_keeps_promises.Goals as goal

pub returns : goal.returns
returns g c = keeps-promises c.crashes_lose_nothing.ensures c.full_is_for_new_entries.ensures g.H.Journals.may_have
