use Rattle.std.proofs.Common.{ap, sym, ◌∙◌}
use Rattle.judy_model.specs.Contents.{word_order, prev}
use Rattle.judy_model.proofs.lemmas.EntryLemmas.{positive}
use Rattle.judy_tree.specs.Root.{entries}
use Rattle.judy_query.proofs.Places.{prev-zero, prev-last}
use Rattle.judy_query.proofs.query.prev_entry.Goals as goal

pub returns-then-x-eq0 : goal.returns-then-x-eq0
returns-then-x-eq0 c =
    let l = entries c.args.values c.args.arena.now.blocks c.args.node in
    sym (ap (λ x. prev word_order l x) c.if-x-eq0.true ∙ prev-zero l)

pub returns : goal.returns
returns c = c.last_entry.ensures ∙ sym (prev-last (entries c.args.values c.args.arena.now.blocks c.args.node) c.args.x (positive c.args.x c.if-x-eq0.false))
