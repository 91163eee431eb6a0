use Rattle.std.proofs.Common.{sym, ◌∙◌, arith}
use Rattle.judy_branch.specs.Branch.{branch_view}
use Rattle.judy_branch.proofs.Lasts.{last-some, last-there}
use Rattle.judy_branch.proofs.lemmas.BranchLaws.{branches-are-sound}
use Rattle.judy_branch.proofs.read.last_child.Goals as goal

pub unreachable-requires : goal.unreachable-requires
unreachable-requires c =
    let sound = branches-are-sound c.args.arena.now.blocks c.args.branch c.requires in
    let two = sound.two in
    last-some (branch_view c.args.arena.now.blocks c.args.branch).children sound.children (omega arith) (sym c.prev_child.ensures ∙ c.in-None.is)

pub returns-clause-there : goal.returns-clause-there
returns-clause-there c =
    let sound = branches-are-sound c.args.arena.now.blocks c.args.branch c.requires in
    last-there (branch_view c.args.arena.now.blocks c.args.branch).children c.in-Some.child sound.children sound.rising
    (sym c.prev_child.ensures ∙ c.in-Some.is)
