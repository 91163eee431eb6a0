use Rattle.std.proofs.Common.{◌+◌}
use Rattle.judy_journal.proofs.Noticing.{IsLastStart, starts_after, starts_first}
use Rattle.judy_journal.proofs.notes.start_of_last.Goals as goal

after : (c : goal.In-Some) → IsLastStart c.args.text.now (c.in-Some.at + 1)
after c = starts_after c.args.text.now c.in-Some.at c.in-Some.ensures.0.high c.in-Some.ensures.1 c.in-Some.ensures.0.after

pub returns-in-Some-clause-front : goal.returns-in-Some-clause-front
returns-in-Some-clause-front c = (after c).front

pub returns-in-Some-clause-last : goal.returns-in-Some-clause-last
returns-in-Some-clause-last c = (after c).last

pub returns-in-None-clause-front : goal.returns-in-None-clause-front
returns-in-None-clause-front c = (starts_first c.args.text.now c.in-None.ensures).front

pub returns-in-None-clause-last : goal.returns-in-None-clause-last
returns-in-None-clause-last c = (starts_first c.args.text.now c.in-None.ensures).last
