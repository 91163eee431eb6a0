use Rattle.std.proofs.Common.{length, ap, sym, ◌∙◌}
use Rattle.judy_leaf.specs.Views.{of_linear}
use Rattle.judy_leaf.proofs.Founds.{first-in, first-end}
use Rattle.judy_leaf.proofs.linear.Linear.first_entry.Goals as goal

pub returns-then-place-stored : goal.returns-then-place-stored
returns-then-place-stored c =
    first-end (of_linear c.args.self) c.rank-place.result (c.if-place-stored.true ∙ ap length (sym c.keys-stored.ensures.all))
    ∙ sym (first-in (of_linear c.args.self) c.keys-stored.result.now c.keys-stored.ensures.all c.args.x c.rank-place.result
    c.rank-place.ensures.within c.rank-place.ensures.under c.rank-place.ensures.over)

pub returns : goal.returns
returns c =
    sym (first-in (of_linear c.args.self) c.keys-stored.result.now c.keys-stored.ensures.all c.args.x c.rank-place.result
    c.rank-place.ensures.within c.rank-place.ensures.under c.rank-place.ensures.over ∙ c.entry_at.ensures)
