use Rattle.std.proofs.Common.{subst}
use Rattle.std.specs.Prelude.{IfNone}
use Rattle.judy_tree.specs.Calls.{IsOutside}
use Rattle.judy_tree.proofs.fork.byte_of.Goals as goal

pub returns-clause-none : goal.returns-clause-none
returns-clause-none c =
    subst (λ l. IfNone c.byte_past.result (IsOutside l c.args.branch.prefix c.args.key)) c.from.ensures c.byte_past.ensures.none
