use Rattle.judy_server.proofs.Asked.{asked_string}
use Rattle.judy_server.proofs.records.change_of.Goals as goal

pub returns-clause-string : goal.returns-clause-string
returns-clause-string c =
    asked_string c.in-Ok-Call.call (c.args.line.now, rw c.in-Ok-Call.field-0-is at c.in-Ok-Call.ensures.spelled)
