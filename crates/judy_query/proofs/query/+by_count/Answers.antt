use Rattle.std.proofs.Common.{ap, sym, ◌∙◌, arith}
use Rattle.judy_model.specs.Contents.{nth}
use Rattle.judy_query.specs.Keys.{key_found}
use Rattle.judy_tree.proofs.lemmas.Finds.{deep-branch, low-branch}
use Rattle.judy_tree.proofs.lemmas.Trees.{root-leaf, leaf-content}
use Rattle.judy_query.proofs.query.+by_count.Goals as goal

pub by_count_in_leaf-requires : goal.by_count_in_leaf-requires
by_count_in_leaf-requires t c = root-leaf c.args.values c.args.arena.now.blocks c.args.node
    (sym c.leads_to_branch.ensures ∙ c.if-not-leads_to_branch.true) c.requires

pub returns-then-not-leads_to_branch : goal.returns-then-not-leads_to_branch
returns-then-not-leads_to_branch t c = c.by_count_in_leaf.ensures
    ∙ sym (ap (λ l. key_found (nth l c.args.n)) (leaf-content c.args.values c.args.arena.now.blocks c.args.node
    (sym c.leads_to_branch.ensures ∙ c.if-not-leads_to_branch.true)))

pub returns-in_default : goal.returns-in_default
returns-in_default t c = ap key_found (sym c.in_default.ensures.none)

pub by_count-requires : goal.by_count-requires
by_count-requires t c =
    let d = deep-branch c.args.values c.args.arena.now.blocks c.args.node 0 (sym c.leads_to_branch.ensures ∙ c.if-not-leads_to_branch.false) c.requires in
    let l = low-branch c.args.values c.args.arena.now.blocks c.args.node 0 (sym c.leads_to_branch.ensures ∙ c.if-not-leads_to_branch.false) c.requires in
    let e = c.in-Some.ensures.deeper in
    (omega arith, c.in-Some.ensures.root)

pub returns : goal.returns
returns t c = c.by_count.ensures ∙ ap key_found (sym c.in-Some.ensures.place)
