use Rattle.std.proofs.Common.{sym, ◌∙◌}
use Rattle.judy_query.proofs.near.first_entry.Goals as goal

pub first_entry-requires-2 : goal.first_entry-requires-2
first_entry-requires-2 c = c.in-Some.ensures.sound

pub returns-in-Some-first_entry : goal.returns-in-Some-first_entry
returns-in-Some-first_entry c = sym (c.in-Some.ensures.from c.in-Some-first_entry.found (sym c.first_entry-2.ensures ∙ c.in-Some-first_entry.is))

pub after-requires : goal.after-requires
after-requires c = c.in-Some.ensures.over

pub first_entry-requires-3 : goal.first_entry-requires-3
first_entry-requires-3 c = (c.in-Some.ensures.after (sym c.first_entry-2.ensures ∙ c.in_default-first_entry.is)
    c.in-Some-after.beside c.in-Some-after.ensures).sound

pub returns : goal.returns
returns c = c.first_entry-3.ensures ∙ (c.in-Some.ensures.after (sym c.first_entry-2.ensures ∙ c.in_default-first_entry.is)
    c.in-Some-after.beside c.in-Some-after.ensures).same
