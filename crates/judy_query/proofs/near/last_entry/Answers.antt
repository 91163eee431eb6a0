use Rattle.std.proofs.Common.{sym, ◌∙◌}
use Rattle.judy_query.proofs.near.last_entry.Goals as goal

pub last_entry-requires-2 : goal.last_entry-requires-2
last_entry-requires-2 c = c.in-Some.ensures.sound

pub returns-in-Some-last_entry : goal.returns-in-Some-last_entry
returns-in-Some-last_entry c = sym (c.in-Some.ensures.upto c.in-Some-last_entry.found (sym c.last_entry-2.ensures ∙ c.in-Some-last_entry.is))

pub before-requires : goal.before-requires
before-requires c = c.in-Some.ensures.over

pub last_entry-requires-3 : goal.last_entry-requires-3
last_entry-requires-3 c = (c.in-Some.ensures.before (sym c.last_entry-2.ensures ∙ c.in_default-last_entry.is)
    c.in-Some-before.beside c.in-Some-before.ensures).sound

pub returns : goal.returns
returns c = c.last_entry-3.ensures ∙ (c.in-Some.ensures.before (sym c.last_entry-2.ensures ∙ c.in_default-last_entry.is)
    c.in-Some-before.beside c.in-Some-before.ensures).same
