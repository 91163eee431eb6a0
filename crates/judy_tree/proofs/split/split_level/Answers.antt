use Rattle.std.proofs.Common.{◌-◌, ap, sym, ◌∙◌}
use Rattle.judy_leaf.specs.Leaf.{leaf_entries}
use Rattle.judy_tree.specs.Calls.{entry_at}
use Rattle.judy_tree.proofs.Splits.{fork-above, must-split}
use Rattle.judy_tree.proofs.split.split_level.Goals as goal

pub returns-then-head-clause-none : goal.returns-then-head-clause-none
returns-then-head-clause-none c =
    let l = leaf_entries c.args.values c.args.arena.now.blocks c.args.leaf in
    fork-above c.args.values c.args.arena.now.blocks c.args.leaf c.args.key c.args.low c.requires.leaf c.requires.absent c.requires.full
    c.requires.low c.key_at-high.result c.difference-level.result
    (c.key_at-high.ensures ∙ ap (λ n. (entry_at l (n - 1)).0) c.population-count.ensures) c.difference-level.ensures
    (sym c.head.ensures ∙ c.if-head.true ∙ c.head-2.ensures)

pub returns-clause-some : goal.returns-clause-some
returns-clause-some c =
    let l = leaf_entries c.args.values c.args.arena.now.blocks c.args.leaf in
    must-split c.args.values c.args.arena.now.blocks c.args.leaf c.args.key c.args.low c.requires.leaf c.requires.absent c.requires.full
    c.requires.low c.key_at-high.result c.difference-level.result
    (c.key_at-high.ensures ∙ ap (λ n. (entry_at l (n - 1)).0) c.population-count.ensures) c.difference-level.ensures
    c.difference.result (λ e. c.if-head.false (c.head.ensures ∙ e ∙ sym c.head-2.ensures)) c.difference.ensures
