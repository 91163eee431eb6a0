use Rattle.std.proofs.Common.{◌≡◌, Some, ap, sym, ◌∙◌, subst}
use Rattle.judy_model.proofs.lemmas.EntryLemmas.{put-same}
use Rattle.judy_branch.specs.Branch.{IsBranchOf, branch_view}
use Rattle.judy_branch.proofs.Same.{children-rise}
use Rattle.judy_branch.proofs.change.change_child.Goals as goal

pub returns-then-word-clause-set : goal.returns-then-word-clause-set
returns-then-word-clause-set c =
    let v = branch_view c.args.arena.now.blocks c.args.branch in
    let same : c.args.child ≡ c.args.was = sym c.word.ensures ∙ c.if-word.true ∙ c.word-2.ensures in
    let children = put-same v.children c.args.byte c.args.child (children-rise c.args.arena.now.blocks c.args.branch
    c.requires.branch) (c.requires.was ∙ ap Some (sym same)) in
    subst (λ es. IsBranchOf c.recount.new.arena.blocks c.args.branch
    (record { level = v.level; prefix = v.prefix; population = c.args.population; children = es })) children
    c.recount.ensures.set
