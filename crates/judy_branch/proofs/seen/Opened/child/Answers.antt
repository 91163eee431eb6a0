use Rattle.std.proofs.Common.{sym, ◌∙◌}
use Rattle.judy_branch.proofs.Branches.{found-reference, child-reference}
use Rattle.judy_branch.proofs.seen.Opened.child.Goals as goal

pub known-requires : goal.known-requires
known-requires c = child-reference c.in-Some.word (found-reference c.self.inside.shape c.self.inside.words.now c.args.byte
    c.in-Some.word c.self.invariant.laid (sym c.child_in.ensures ∙ c.in-Some.is))
