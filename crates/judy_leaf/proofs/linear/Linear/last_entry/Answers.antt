use Rattle.std.proofs.Common.{sym, ◌∙◌}
use Rattle.judy_leaf.specs.Views.{of_linear}
use Rattle.judy_leaf.proofs.Founds.{last-none, last-at}
use Rattle.judy_model.proofs.lemmas.EntryLemmas.{positive}
use Rattle.judy_leaf.proofs.linear.Linear.last_entry.Goals as goal

pub returns-then-past-eq0 : goal.returns-then-past-eq0
returns-then-past-eq0 c =
    last-none (of_linear c.args.self) c.keys-stored.result.now c.keys-stored.ensures.all c.args.x c.rank_past-past.result
    c.rank_past-past.ensures.within c.rank_past-past.ensures.upto c.rank_past-past.ensures.past c.if-past-eq0.true

pub returns : goal.returns
returns c =
    sym (last-at (of_linear c.args.self) c.keys-stored.result.now c.keys-stored.ensures.all c.args.x c.rank_past-past.result
    c.rank_past-past.ensures.within c.rank_past-past.ensures.upto c.rank_past-past.ensures.past
    (positive c.rank_past-past.result c.if-past-eq0.false) ∙ c.entry_at.ensures)
